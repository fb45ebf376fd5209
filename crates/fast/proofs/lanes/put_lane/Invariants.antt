use mathlib.Core.Path.{◌≡◌}
use Rattle.fast.proofs.Sixteen.{put_words}
use Rattle.fast.proofs.lanes.put_lane.Given as goal

abbrev pub invariant-loop-i : goal.invariant-loop-i
invariant-loop-i l = l.w ≡ put_words l.initial.w l.j l.fn.x l.i

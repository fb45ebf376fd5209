-- `lanes::put_lane` meets its contract: after four turns all four words are put. Assumes nothing.
use mathlib.Core.Path.{◌≡◌, ◌∙◌}
use native.Mathlib.Omega.{arith}
use Rattle.fast.proofs.Sixteen.{put_four}
use Rattle.fast.proofs.lanes.put_lane.Goals as goal

pub returns : goal.returns
returns c =
    let e : c.loop-i.i ≡ 4 = omega arith in
    c.loop-i.invariant ∙ rw e (put_four _ _ _)

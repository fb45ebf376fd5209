use Rattle.fast.proofs.Sixteen.{Going}
use Rattle.fast.proofs.lanes.each_lane.Given as goal

abbrev pub invariant-loop-j : goal.invariant-loop-j
invariant-loop-j g l = Going (goal.F-post g l.step) l.initial.w l.w l.j

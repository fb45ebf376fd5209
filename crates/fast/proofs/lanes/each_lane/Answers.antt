-- `lanes::each_lane` meets its contract: lanes below j are done. Assumes nothing.
use native.Mathlib.Omega.{arith}
use Rattle.fast.proofs.Sixteen.{next_lane}
use Rattle.fast.proofs.lanes.each_lane.Goals as goal

pub loop-j-preserved : goal.loop-j-preserved
loop-j-preserved g c =
    next_lane _ _ _ _ c.loop-j.invariant (omega arith)
    c.step-y.type_inv.1.0.1 c.lane-x.ensures c.step-y.ensures c.put_lane.ensures

-- `lanes::decrypt_each` meets its contract: rounds 31 to 24, and then eight a turn, are undone. Assumes nothing.
use mathlib.Core.Path.{◌≡◌}
use Prim.Native.Nat.{◌-◌, ◌+◌}
use native.Mathlib.Omega.{arith}
use Rattle.fast.proofs.Undoing.{undoing_none, undoing_turn, undone}
use Rattle.fast.proofs.lanes.decrypt_each.Goals as goal

pub loop-t-init : goal.loop-t-init
loop-t-init c = (omega arith, undoing_none _ _ c.undo_six.ensures.size)

pub loop-t-preserved : goal.loop-t-preserved
loop-t-preserved c =
    let at = c.loop-t in
    let e : at.t ≡ at.t - 1 + 1 = omega arith in
    (omega arith, undoing_turn _ (at.t - 1) (rw e at at.invariant.1) c.undo_pair.ensures c.undo_six-in-loop-t.ensures)

pub returns : goal.returns
returns c =
    let e : c.loop-t.t ≡ 0 = omega arith in
    undone _ c.undo_last.ensures c.undo_six.ensures (rw e at c.loop-t.invariant.1)

-- `lanes::undo_six` meets its contract: one pair after the other on each lane. Assumes nothing.
use native.Mathlib.Nat.{add-zero}
use Rattle.fast.proofs.Undoing.{three_pairs}
use Rattle.fast.proofs.lanes.undo_six.Goals as goal

pub returns : goal.returns
returns c =
    three_pairs _ c.args.t c.undo_pair.ensures c.undo_pair-2.ensures (rw add-zero at c.undo_pair-3.ensures)

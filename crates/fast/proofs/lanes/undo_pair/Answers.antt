-- `lanes::undo_pair` meets its contract: a step undoes the two rounds. Assumes nothing.
use mathlib.Core.Path.{◌∙◌}
use Prim.Native.Nat.{◌+◌, ◌*◌}
use native.Mathlib.Omega.{arith}
use Rattle.fast.proofs.Sixteen.{each_by}
use Rattle.fast.proofs.Undoing.{pair_undone}
use Rattle.fast.proofs.lanes.undo_pair.Goals as goal

pub returns : goal.returns
returns g c =
    let t = c.args.t in
    let u = g.row.UPPER in
    let l = g.row.LOWER in
    each_by _ c.each_lane.ensures
    (λ x z h.
    h.1 ∙ pair_undone _ (8 * t + u) (8 * t + l) u l x (omega arith) (omega arith) (omega arith)
    c.round_key-upper.ensures c.round_key-lower.ensures)

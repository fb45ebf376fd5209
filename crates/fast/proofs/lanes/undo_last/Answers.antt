-- `lanes::undo_last` meets its contract: a step undoes rounds 31 and 30. Assumes nothing.
use mathlib.Core.Path.{refl, ap, ◌∙◌}
use Rattle.serpent.specs.Block.{unround}
use Rattle.fast.proofs.Sixteen.{each_by}
use Rattle.fast.proofs.Unmixed.{undoes, undoes_last}
use Rattle.fast.proofs.lanes.undo_last.Goals as goal

pub returns : goal.returns
returns c =
    each_by _ c.each_lane.ensures
    (λ x z h.
    h.1 ∙ undoes _ 30 30 _ refl c.round_key-lower.ensures
    ∙ ap (unround _ 30) (undoes_last _ x c.round_key-upper.ensures c.round_key-after.ensures))

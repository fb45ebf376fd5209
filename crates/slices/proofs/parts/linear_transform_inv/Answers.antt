-- `slices::parts::linear_transform_inv` meets its contract: the tests 2 and 5, one after the other. Assumes nothing.
use mathlib.Core.Path.{◌≡◌, refl, sym, ◌∙◌}
use Rattle.std.proofs.Common.{rules}
use Rattle.answers.specs.Numbers.{number, code}
use Rattle.answers.proofs.Answers.{answered}
use Rattle.answers.proofs.Numbers.{kept, here, later, at_last}
use Rattle.bitslice.specs.Linear.{linear_transform_inv}
use Rattle.slices.specs.Parts.{words_number}
use Rattle.slices.proofs.Pieces.{through}
use Rattle.slices.proofs.parts.linear_transform_inv.Goals as goal

pub returns-in_err-four_words : goal.returns-in_err-four_words
unfolding words_number
returns-in_err-four_words c =
    let told : number c.from_residual.result ≡ code c.in_err-four_words.field-0.0 = search rules in
    let n = here _ _ c.in_err-four_words.ensures.number in
    record { number = told ∙ n; written = kept _ _ _ n }

pub returns : goal.returns
unfolding words_number
returns c =
    let order = later _ c.in_ok-four_words.ensures.number (at_last refl) in
    let bytes = through linear_transform_inv _ c.in_ok-four_words.ensures.words c.linear_transform_inv-restored.ensures c.write_words.ensures in
    let w = answered _ _ (sym order) bytes c.write_words.type_inv.1.0.1 c.put_answer.ensures.number c.put_answer.ensures.written in
    record { number = w.0; written = w.1 }

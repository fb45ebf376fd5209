-- `slices::parts::expand_key` meets its contract: the tests 1 and 5, and then the padding is put. Assumes nothing.
use mathlib.Core.Path.{◌≡◌, refl, sym, ◌∙◌}
use Rattle.std.proofs.Common.{rules}
use Rattle.answers.specs.Numbers.{number, code}
use Rattle.answers.proofs.Answers.{answered}
use Rattle.answers.proofs.Numbers.{kept, here, later, at_last}
use Rattle.slices.specs.Parts.{setup_number}
use Rattle.slices.proofs.parts.expand_key.Goals as goal

pub returns-in_err-check_key : goal.returns-in_err-check_key
unfolding setup_number
returns-in_err-check_key c =
    let told : number c.from_residual.result ≡ code c.in_err-check_key.field-0.0 = search rules in
    let n = here _ _ c.in_err-check_key.ensures in
    record { number = told ∙ n; written = kept _ _ _ n }

pub returns : goal.returns
unfolding setup_number
returns c =
    let order = later _ c.in_ok-check_key.ensures (at_last refl) in
    let w = answered _ _ (sym order) c.padded_key.ensures c.padded_key.type_inv.1.0.1 c.put_answer.ensures.number c.put_answer.ensures.written in
    record { number = w.0; written = w.1 }

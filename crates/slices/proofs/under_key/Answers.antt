-- `slices::under_key` meets its contract: the tests 1, 2 and 5, one after the other, and then the block. Assumes nothing.
use mathlib.Core.Path.{◌≡◌, refl, sym, ap₂, ◌∙◌}
use Rattle.std.proofs.Common.{rules}
use Rattle.answers.specs.Numbers.{number, code}
use Rattle.answers.specs.declared.Refusal.TheVariants.{OutShort}
use Rattle.answers.proofs.Answers.{answered, short}
use Rattle.answers.proofs.Numbers.{kept, here, later, at_last}
use Rattle.slices.specs.Blocks.{block_number}
use Rattle.slices.proofs.under_key.Goals as goal

pub returns-in_err-check_key : goal.returns-in_err-check_key
unfolding block_number
returns-in_err-check_key g c =
    let told : number c.from_residual.result ≡ code c.in_err-check_key.field-0.0 = search rules in
    let n = here _ _ c.in_err-check_key.ensures in
    record { number = told ∙ n; written = kept _ _ _ n }

pub returns-in_err-block : goal.returns-in_err-block
unfolding block_number
returns-in_err-block g c =
    let told : number c.from_residual-in_err-block.result ≡ code c.in_err-block.field-0.0 = search rules in
    let n = later _ c.in_ok-check_key.ensures (here _ _ c.in_err-block.ensures.number) in
    record { number = told ∙ n; written = kept _ _ _ n }

pub returns-then-out-lt16 : goal.returns-then-out-lt16
unfolding block_number
returns-then-out-lt16 g c =
    let n = later _ c.in_ok-check_key.ensures (later _ c.in_ok-block.ensures.number (at_last (sym (short _ _ c.if-out-lt16.true)))) in
    record { number = n; written = kept OutShort _ _ n }

pub returns-in_err-cipher : goal.returns-in_err-cipher
unfolding block_number
returns-in_err-cipher g c =
    let told : number c.from_residual-in_err-cipher.result ≡ code c.in_err-cipher.field-0.0 = search rules in
    let n = here _ _ c.in_err-cipher.ensures.number in
    record { number = told ∙ n; written = kept _ _ _ n }

pub returns : goal.returns
unfolding block_number
returns g c =
    let order = later _ c.in_ok-cipher.ensures.number (later _ c.in_ok-block.ensures.number (at_last refl)) in
    let bytes = c.block.ensures ∙ ap₂ g.W.Way.of_block c.in_ok-cipher.ensures.round_keys c.in_ok-block.ensures.block in
    let w = answered _ _ (sym order) bytes c.block.type_inv.1.0.1 c.put_answer.ensures.number c.put_answer.ensures.written in
    record { number = w.0; written = w.1 }

-- `slices::parts::new_from_slice` meets its contract: the tests 1 and 5, and then the round keys are put as bytes. Assumes nothing.
use mathlib.Core.Path.{◌≡◌, refl, sym, ap, ◌∙◌}
use mathlib.Core.List.{List}
use Prim.Native.Nat.{ℕ}
use Rattle.words.specs.Bytes.{bytes_of}
use Rattle.std.proofs.Common.{rules}
use Rattle.answers.specs.Numbers.{number, code}
use Rattle.answers.proofs.Answers.{answered}
use Rattle.answers.proofs.Numbers.{kept, here, later, at_last}
use Rattle.slices.specs.Parts.{setup_number}
use Rattle.slices.proofs.parts.new_from_slice.Goals as goal

pub returns-in_err-cipher : goal.returns-in_err-cipher
unfolding setup_number
returns-in_err-cipher c =
    let told : number c.from_residual.result ≡ code c.in_err-cipher.field-0.0 = search rules in
    let n = here _ _ c.in_err-cipher.ensures.number in
    record { number = told ∙ n; written = kept _ _ _ n }

pub returns : goal.returns
unfolding setup_number
returns c =
    let order = later _ c.in_ok-cipher.ensures.number (at_last refl) in
    let w = answered _ _ (sym order) (c.round_key_bytes.ensures ∙ ap (λ (k : List ℕ). bytes_of k 528) c.in_ok-cipher.ensures.round_keys)
    c.round_key_bytes.type_inv.1.0.1 c.put_answer.ensures.number c.put_answer.ensures.written in
    record { number = w.0; written = w.1 }

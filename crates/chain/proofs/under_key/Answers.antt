-- `chain::under_key` meets its contract: the tests in their order, and then the chain under the key's round keys. Assumes nothing.
use mathlib.Core.Path.{◌≡◌, sym, ◌∙◌}
use Rattle.std.proofs.Common.{rules}
use Rattle.answers.specs.Numbers.{number, code}
use Rattle.answers.specs.declared.Refusal.TheVariants.{OutShort}
use Rattle.answers.proofs.Answers.{short}
use Rattle.answers.proofs.Numbers.{kept, here, later, at_last, early, late}
use Rattle.chain.specs.Slices.{lengths_number, chain_number}
use Rattle.chain.proofs.Chains.{written}
use Rattle.chain.proofs.under_key.Goals as goal

pub returns-in_err-check_key : goal.returns-in_err-check_key
unfolding chain_number
returns-in_err-check_key g c =
    let told : number c.from_residual.result ≡ code c.in_err-check_key.field-0.0 = search rules in
    let n = here _ _ c.in_err-check_key.ensures in
    record { number = told ∙ n; written = kept _ _ _ n }

pub returns-in_err-start : goal.returns-in_err-start
unfolding lengths_number chain_number
returns-in_err-start g c =
    let told : number c.from_residual-in_err-start.result ≡ code c.in_err-start.field-0.0 = search rules in
    let n = later _ c.in_ok-check_key.ensures (early _ _ _ c.in_err-start.ensures.number) in
    record { number = told ∙ n; written = kept _ _ _ n }

pub returns-then-out-bytes : goal.returns-then-out-bytes
unfolding lengths_number chain_number
returns-then-out-bytes g c =
    let n = later _ c.in_ok-check_key.ensures (late _ _ c.in_ok-start.ensures.number (at_last (sym (short _ _ c.if-out-bytes.true)))) in
    record { number = n; written = kept OutShort _ _ n }

pub returns-in_err-cipher : goal.returns-in_err-cipher
unfolding chain_number
returns-in_err-cipher g c =
    let told : number c.from_residual-in_err-cipher.result ≡ code c.in_err-cipher.field-0.0 = search rules in
    let n = here _ _ c.in_err-cipher.ensures.number in
    record { number = told ∙ n; written = kept _ _ _ n }

pub returns : goal.returns
returns g c =
    let a = c.args in
    let key = c.in_ok-cipher.ensures in
    let start = c.in_ok-start.ensures in
    let w = written g.W.Way.chained a.key.now a.bytes.now a.start.now a.out.now key.number key.round_keys start.number start.block c.under_round_keys.ensures.number c.under_round_keys.ensures.written in
    record { number = w.0; written = w.1 }

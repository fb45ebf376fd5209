-- `chain::xor_block` meets its contract: each place has the XOR. Assumes nothing.
use Rattle.std.proofs.Common.{◌≡◌, ℕ, ◌+◌, List, length, get_or, refl, sym, ◌∙◌, arith, rules, Bor}
use lib.Bits.{bit_xor}
use Rattle.chain.proofs.Calls.{each_made}
use Rattle.chain.proofs.Xors.{xor_each}
use Rattle.chain.proofs.xor_block.Goals as goal

pub returns : goal.returns
returns c =
    let a = c.args in
    let left : length a.a ≡ 16 = search rules in
    let right : length a.b ≡ 16 = search rules in
    xor_each a.a a.b _ (left ∙ sym right) (c.from_fn.ensures.items.long ∙ sym left) (λ j l.
    let zeroth : 0 + j ≡ j = omega arith in
    let made : get_or c.from_fn.result (0 + j) 0 ≡ bit_xor (get_or a.a (0 + j) 0) (get_or a.b (0 + j) 0) =
    each_made _ (λ (p : Bor (List ℕ) × Bor (List ℕ)). (p.0.now ≡ a.a) × (p.1.now ≡ a.b)) (λ i. bit_xor (get_or a.a i 0) (get_or a.b i 0))
    (λ p q i y s k. search rules) 16 0 _ c.from_fn.result (refl, refl) c.from_fn.ensures.items.each j (omega arith) in
    rw zeroth at made)

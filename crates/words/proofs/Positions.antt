-- Facts about a bit position, each proved once, over the position.
-- Assumes nothing.
use mathlib.Core.Path.{◌≡◌, refl, sym, ap, ap₂, ◌∙◌, fun_ext}
use Prim.Native.Nat.{ℕ, zero, suc, ◌+◌, ◌*◌, ◌/◌, ◌%◌, ◌^◌, ◌<◌, suc-le-suc}
use native.Mathlib.Nat.{pow-suc, le_of_suc-le-suc}
use native.Mathlib.Omega.{arith}
use native.Mathlib.Numerals.{one-add}
use lib.Pow.{shr-shr}
use lib.Bits.{bit_and, bit_or, bit_xor, and_shr, or_shr, xor_shr, and_mod, or_mod, xor_mod, and_block, or_block, xor_block}
use Rattle.words.specs.Bits.{bit, from_bits}

pub bit_lt : (j x : ℕ) → bit j x < 2
unfolding bit
bit_lt j x = omega arith

bit_suc : (j x : ℕ) → bit (suc j) x ≡ bit j (x / 2)
unfolding bit
bit_suc j x = ap (λ (m : ℕ). x / 2 ^ m % 2) (sym (one-add j)) ∙ ap (λ (y : ℕ). y % 2) (sym (shr-shr x 1 j))

pub from_bits_lt : (n : ℕ) (f : ℕ → ℕ) → ((j : ℕ) → f j < 2) → from_bits n f < 2 ^ n
unfolding from_bits
from_bits_lt zero f h = omega arith
from_bits_lt (suc n) f h = rw pow-suc (omega (arith, h 0, from_bits_lt n (λ j. f (suc j)) (λ j. h (suc j))))

pub bit-from_bits : (n : ℕ) (f : ℕ → ℕ) → ((j : ℕ) → f j < 2) → (j : ℕ) → j < n → bit j (from_bits n f) ≡ f j
unfolding from_bits bit
bit-from_bits zero f h j l = absurd (omega arith)
bit-from_bits (suc n) f h zero l = omega (arith, h 0)
bit-from_bits (suc n) f h (suc j) l =
    bit_suc j _ ∙ ap (bit j) (omega (arith, h 0)) ∙ bit-from_bits n (λ i. f (suc i)) (λ i. h (suc i)) j (le_of_suc-le-suc l)

pub from_bits-bit : (n x : ℕ) → x < 2 ^ n → from_bits n (λ j. bit j x) ≡ x
unfolding from_bits bit
from_bits-bit zero x l = omega arith
from_bits-bit (suc n) x l =
    let l' : x < 2 ^ n * 2 = rw pow-suc at l in
    let h : from_bits n (λ j. bit (suc j) x) ≡ x / 2 = ap (from_bits n) (fun_ext (λ j. bit_suc j x)) ∙ from_bits-bit n (x / 2) (omega arith) in
    omega arith

pub from_bits_ext : (n : ℕ) {f g : ℕ → ℕ} → ((j : ℕ) → j < n → f j ≡ g j) → from_bits n f ≡ from_bits n g
unfolding from_bits
from_bits_ext zero h = refl
from_bits_ext (suc n) h = ap₂ (λ (a b : ℕ). a * 2 + b) (from_bits_ext n (λ j l. h (suc j) (suc-le-suc l))) (h 0 (omega arith))

-- the word of n bits whose bit j is bit p j of t
unfoldable pub pick : ℕ → (ℕ → ℕ) → ℕ → ℕ
pick n p t = from_bits n (λ j. bit (p j) t)

module _ (op : ℕ → ℕ → ℕ) (none : op 0 0 ≡ 0)
    (block : (k a b r s : ℕ) → r < 2 ^ k → s < 2 ^ k → op (a * 2 ^ k + r) (b * 2 ^ k + s) ≡ op a b * 2 ^ k + op r s)
    (shr : (a b k : ℕ) → op a b / 2 ^ k ≡ op (a / 2 ^ k) (b / 2 ^ k))
    (low : (a b k : ℕ) → op a b % 2 ^ k ≡ op (a % 2 ^ k) (b % 2 ^ k)) where
  op_pick : (n : ℕ) (p : ℕ → ℕ) (s t : ℕ) → op (pick n p s) (pick n p t) ≡ pick n p (op s t)
  unfolding pick from_bits bit
  op_pick zero p s t = none
  op_pick (suc n) p s t =
      block 1 _ _ _ _ (bit_lt (p 0) s) (bit_lt (p 0) t)
      ∙ ap₂ (λ (a b : ℕ). a * 2 + b) (op_pick n (λ j. p (suc j)) s t) (sym (low (s / 2 ^ p 0) (t / 2 ^ p 0) 1) ∙ ap (λ (a : ℕ). a % 2) (sym (shr s t (p 0))))

pub and_pick : (n : ℕ) (p : ℕ → ℕ) (s t : ℕ) → bit_and (pick n p s) (pick n p t) ≡ pick n p (bit_and s t)
and_pick = op_pick bit_and refl and_block and_shr and_mod

pub or_pick : (n : ℕ) (p : ℕ → ℕ) (s t : ℕ) → bit_or (pick n p s) (pick n p t) ≡ pick n p (bit_or s t)
or_pick = op_pick bit_or refl or_block or_shr or_mod

pub xor_pick : (n : ℕ) (p : ℕ → ℕ) (s t : ℕ) → bit_xor (pick n p s) (pick n p t) ≡ pick n p (bit_xor s t)
xor_pick = op_pick bit_xor refl xor_block xor_shr xor_mod

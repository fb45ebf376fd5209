-- The XOR of two blocks is a block, and XOR with the same block twice gives the first one back.
-- Assumes nothing.
use mathlib.Core.Path.{◌≡◌, refl, sym, ap, ap₂, ◌∙◌}
use mathlib.Core.List.{List, [], ◌∷◌}
use Prim.Native.Nat.{ℕ, zero, suc, ◌<◌, ◌^◌}
use native.Mathlib.Nat.{suc_inj, le_of_suc-le-suc}
use native.Mathlib.Omega.{arith}
use lib.Bits.{bit_xor, xor_lt}
use lib.ListN.{length, get_or}
use lib.Seq.{ext_get_or}
use Rattle.words.specs.Sized.{Block}
use Rattle.words.proofs.Xor as numbers
use Rattle.chain.specs.Chain.{xor}

get_or-xor : (a b : List ℕ) (j : ℕ) → j < length a → j < length b → bit_xor (get_or a j 0) (get_or b j 0) ≡ get_or (xor a b) j 0
unfolding xor
get_or-xor [] b j h k = absurd (omega arith)
get_or-xor (x ∷ a) [] j h k = absurd (omega arith)
get_or-xor (x ∷ a) (y ∷ b) zero h k = refl
get_or-xor (x ∷ a) (y ∷ b) (suc j) h k = get_or-xor a b j (le_of_suc-le-suc h) (le_of_suc-le-suc k)

pub length-xor : (a b : List ℕ) → length a ≡ length b → length (xor a b) ≡ length a
unfolding xor
length-xor [] b h = refl
length-xor (x ∷ a) [] h = absurd (omega arith)
length-xor (x ∷ a) (y ∷ b) h = ap suc (length-xor a b (suc_inj h))

-- a list that has the XOR at each place is the XOR
pub xor_each : (a b r : List ℕ) → length a ≡ length b → length r ≡ length a
    → ((j : ℕ) → j < length a → get_or r j 0 ≡ bit_xor (get_or a j 0) (get_or b j 0)) → r ≡ xor a b
xor_each a b r p q each =
    let long = length-xor a b p in
    ext_get_or 0 r (xor a b) (q ∙ sym long) λ j h.
    let l : j < length a = omega arith in
    each j l ∙ get_or-xor a b j l (omega arith)

xor_small : (a b : List ℕ) → ((i : ℕ) → get_or a i 0 < 2 ^ 8) → ((i : ℕ) → get_or b i 0 < 2 ^ 8) → (i : ℕ) → get_or (xor a b) i 0 < 2 ^ 8
unfolding xor
xor_small [] b h k i = h i
xor_small (x ∷ a) [] h k i = k i
xor_small (x ∷ a) (y ∷ b) h k zero = xor_lt 8 x y (h zero) (k zero)
xor_small (x ∷ a) (y ∷ b) h k (suc i) = xor_small a b (λ j. h (suc j)) (λ j. k (suc j)) i

pub xor_block : {a b : List ℕ} → Block a → Block b → Block (xor a b)
xor_block {a} {b} p q = record {
  len = length-xor a b (p.len ∙ sym q.len) ∙ p.len;
  small = xor_small a b p.small q.small;
}

twice : (a b : List ℕ) → length a ≡ length b → xor (xor a b) b ≡ a
unfolding xor
twice [] b h = refl
twice (x ∷ a) [] h = absurd (omega arith)
twice (x ∷ a) (y ∷ b) h = ap₂ (λ (z : ℕ) (l : List ℕ). z ∷ l) (numbers.xor_twice x y) (twice a b (suc_inj h))

pub xor_twice : {a b : List ℕ} → Block a → Block b → xor (xor a b) b ≡ a
xor_twice {a} {b} p q = twice a b (p.len ∙ sym q.len)

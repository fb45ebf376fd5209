-- The chain cut in two, one block longer, and read from a place on.
-- Assumes nothing.
use mathlib.Core.Path.{◌≡◌, refl, sym, ap, ap₂, ◌∙◌}
use mathlib.Core.List.{List, [], ◌∷◌, ◌++◌}
use Prim.Native.Nat.{ℕ, zero, suc, ◌+◌, ◌-◌, ◌*◌, ◌≤◌, ◌<◌}
use native.Mathlib.Nat.{le_of_suc-le-suc}
use native.Mathlib.Numerals.{add-one}
use native.Mathlib.Omega.{arith}
use lib.ListN.{length, take, drop, get_or}
use Rattle.chain.specs.Chain.{xor, encipher, decipher, last_or, blocks, join}
use Rattle.chain.proofs.Blocks.{block, drop-over, blocks_more, join_more, take-blocks, drop-blocks}

-- ---- the last block
pub last_or-append : (s : List ℕ) (a b : List (List ℕ)) → last_or s (a ++ b) ≡ last_or (last_or s a) b
unfolding last_or
last_or-append s [] b = refl
last_or-append s (c ∷ a) b = last_or-append c a b

pub last_more : (s : List ℕ) (i : ℕ) (c : List ℕ) → last_or s (blocks (i + 1) c) ≡ block i c
unfolding last_or
last_more s i c =
    ap (λ (n : ℕ). last_or s (blocks n c)) (add-one i) ∙ ap (last_or s) (blocks_more i c) ∙ last_or-append s (blocks i c) (block i c ∷ [])

-- ---- deciphering
module _ (D : List ℕ → List ℕ) where
  pub length-decipher : (s : List ℕ) (cs : List (List ℕ)) → length (decipher D s cs) ≡ length cs
  unfolding decipher
  length-decipher s [] = refl
  length-decipher s (c ∷ cs) = ap suc (length-decipher c cs)

  -- a chain read in two parts: the second starts from the last cipher block of the first
  decipher_append : (s : List ℕ) (a b : List (List ℕ)) → decipher D s (a ++ b) ≡ decipher D s a ++ decipher D (last_or s a) b
  unfolding decipher last_or
  decipher_append s [] b = refl
  decipher_append s (c ∷ a) b = ap (λ (l : List (List ℕ)). xor (D c) s ∷ l) (decipher_append c a b)

  decipher_take : (s : List ℕ) (n : ℕ) (cs : List (List ℕ)) → take n (decipher D s cs) ≡ decipher D s (take n cs)
  unfolding decipher
  decipher_take s zero cs = refl
  decipher_take s (suc n) [] = refl
  decipher_take s (suc n) (c ∷ cs) = ap (λ (l : List (List ℕ)). xor (D c) s ∷ l) (decipher_take c n cs)

  decipher_drop : (s : List ℕ) (n : ℕ) (cs : List (List ℕ)) → drop n (decipher D s cs) ≡ decipher D (last_or s (take n cs)) (drop n cs)
  unfolding decipher last_or
  decipher_drop s zero cs = refl
  decipher_drop s (suc n) [] = refl
  decipher_drop s (suc n) (c ∷ cs) = decipher_drop c n cs

  pub decipher_more : (s : List ℕ) (i : ℕ) (c : List ℕ) → join (decipher D s (blocks (i + 1) c)) ≡ join (decipher D s (blocks i c)) ++ xor (D (block i c)) (last_or s (blocks i c))
  unfolding decipher
  decipher_more s i c =
      ap (λ (n : ℕ). join (decipher D s (blocks n c))) (add-one i)
      ∙ ap (λ (l : List (List ℕ)). join (decipher D s l)) (blocks_more i c)
      ∙ ap join (decipher_append s (blocks i c) (block i c ∷ []))
      ∙ join_more (decipher D s (blocks i c)) (xor (D (block i c)) (last_or s (blocks i c)))

  -- the text at place p: its cipher block deciphered, XOR the one before it
  pub text_at : (s : List ℕ) (n p : ℕ) (c : List ℕ) → p < n → get_or (decipher D s (blocks n c)) p [] ≡ xor (D (block p c)) (last_or s (blocks p c))
  unfolding decipher blocks last_or
  text_at s zero p c h = absurd (omega arith)
  text_at s (suc n) zero c h = refl
  text_at s (suc n) (suc p) c h =
      text_at (take 16 c) n p (drop 16 c) (le_of_suc-le-suc h)
      ∙ ap (λ (l : List ℕ). xor (D (take 16 l)) (last_or (take 16 c) (blocks p (drop 16 c)))) (drop-over p c)

  -- a window is a chain of its own, that starts from the cipher block before it
  pub window : (s c : List ℕ) (n i m : ℕ) → i + m ≤ n → decipher D (last_or s (blocks i c)) (blocks m (drop (i * 16) c)) ≡ take m (drop i (decipher D s (blocks n c)))
  window s c n i m h =
      sym
      (ap (take m) (decipher_drop s i (blocks n c))
      ∙ decipher_take (last_or s (take i (blocks n c))) m (drop i (blocks n c))
      ∙ ap₂ (λ (x y : List (List ℕ)). decipher D (last_or s x) (take m y)) (take-blocks i n c (omega arith)) (drop-blocks i n c (omega arith))
      ∙ ap (λ (y : List (List ℕ)). decipher D (last_or s (blocks i c)) y) (take-blocks m (n - i) (drop (i * 16) c) (omega arith)))

-- ---- enciphering
module _ (E : List ℕ → List ℕ) where
  encipher_append : (s : List ℕ) (a b : List (List ℕ)) → encipher E s (a ++ b) ≡ encipher E s a ++ encipher E (last_or s (encipher E s a)) b
  unfolding encipher last_or
  encipher_append s [] b = refl
  encipher_append s (p ∷ a) b = ap (λ (l : List (List ℕ)). E (xor p s) ∷ l) (encipher_append (E (xor p s)) a b)

  -- the cipher block at place i
  abbrev pub next : List ℕ → ℕ → List ℕ → List ℕ
  next s i t = E (xor (block i t) (last_or s (encipher E s (blocks i t))))

  snoc : (s : List ℕ) (i : ℕ) (t : List ℕ) → encipher E s (blocks (i + 1) t) ≡ encipher E s (blocks i t) ++ (next s i t ∷ [])
  unfolding encipher
  snoc s i t =
      ap (λ (n : ℕ). encipher E s (blocks n t)) (add-one i) ∙ ap (encipher E s) (blocks_more i t) ∙ encipher_append s (blocks i t) (block i t ∷ [])

  pub encipher_more : (s : List ℕ) (i : ℕ) (t : List ℕ) → join (encipher E s (blocks (i + 1) t)) ≡ join (encipher E s (blocks i t)) ++ next s i t
  encipher_more s i t = ap join (snoc s i t) ∙ join_more (encipher E s (blocks i t)) (next s i t)

  pub last_next : (s : List ℕ) (i : ℕ) (t : List ℕ) → last_or s (encipher E s (blocks (i + 1) t)) ≡ next s i t
  unfolding last_or
  last_next s i t = ap (last_or s) (snoc s i t) ∙ last_or-append s (encipher E s (blocks i t)) (next s i t ∷ [])

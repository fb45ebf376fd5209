-- The digits at the front of a text, and the byte that two of them spell.
-- Assumes nothing.
use Rattle.std.proofs.Common.{◌≡◌, ℕ, suc, zero, ◌+◌, ◌*◌, ◌/◌, ◌<◌, ◌≤◌, Bool, cond, ltb, true, false, List, [], ◌∷◌, ◌++◌, length, refl, ap, ◌∙◌, arith, add-one}
use borrow.Author.Tests.{ltb-true}
use Rattle.words.specs.Sized.{list_of}
use Rattle.hexkey.specs.Key.{value, digits, byte_of, key_bytes}

-- a digit is below 16
pub small : (text : List ℕ) {digit : ℕ} {rest : List ℕ} → digits text ≡ digit ∷ rest → digit < 16
unfolding digits
small [] e = cc
small (b ∷ text) {digit} {rest} e = by (small text) (ltb (value b) 16) refl e
  where
    by : (digits text ≡ digit ∷ rest → digit < 16) → (t : Bool) → ltb (value b) 16 ≡ t
        → cond t (value b ∷ digits text) (digits text) ≡ digit ∷ rest → digit < 16
    by ih true h e = grind (arith, ltb-true)
    by ih false h e = ih e

-- a text has no more digits than bytes
pub digits_within : (text : List ℕ) → length (digits text) ≤ length text
unfolding digits
digits_within [] = omega arith
digits_within (b ∷ text) = by (digits_within text) (ltb (value b) 16)
  where
    by : length (digits text) ≤ length text → (t : Bool)
        → length (cond t (value b ∷ digits text) (digits text)) ≤ suc (length text)
    by ih true = omega arith
    by ih false = omega arith

-- ---- a list by its rule, from its first on
list_from_first : (f : ℕ → ℕ) (n : ℕ) → list_of f (suc n) ≡ f 0 ∷ list_of (λ i. f (suc i)) n
unfolding list_of
list_from_first f zero = refl
list_from_first f (suc n) = ap (λ (l : List ℕ). l ++ (f (suc n) ∷ [])) (list_from_first f n)

-- ---- the bytes that digits spell
bytes : List ℕ → List ℕ
bytes l = list_of (byte_of l) (length l / 2)

first_two : (high low : ℕ) (l : List ℕ) → bytes (high ∷ low ∷ l) ≡ (16 * high + low) ∷ bytes l
unfolding bytes
first_two high low l =
    let half : length (high ∷ low ∷ l) / 2 ≡ suc (length l / 2) = omega arith in
    ap (list_of (byte_of (high ∷ low ∷ l))) half
    ∙ list_from_first (byte_of (high ∷ low ∷ l)) (length l / 2)
    ∙ ap (λ (f : ℕ → ℕ). (16 * high + low) ∷ list_of f (length l / 2)) (λ i j. later j i)
  where
    later : (j : ℕ) → byte_of (high ∷ low ∷ l) (suc j) ≡ byte_of l j
    later j = let twice : 2 * suc j ≡ suc (suc (2 * j)) = omega arith in simp (twice, add-one) refl

-- the byte of the two digits at the front, and those of the others
pub whole : (text rest : List ℕ) {high low : ℕ}
    → digits text ≡ high ∷ low ∷ digits rest → key_bytes text ≡ (16 * high + low) ∷ key_bytes rest
unfolding key_bytes bytes
whole text rest e = ap bytes e ∙ first_two _ _ (digits rest)

-- fewer than two digits spell none
pub few : (text : List ℕ) → length (digits text) < 2 → key_bytes text ≡ []
unfolding key_bytes list_of
few text h = let none : length (digits text) / 2 ≡ 0 = omega arith in rw none refl

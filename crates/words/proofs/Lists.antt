-- Lists that are filled from the front, lists by their rule, and lists of four.
-- Assumes nothing.
use mathlib.Core.Path.{◌≡◌, refl, ap₂, ◌∙◌}
use mathlib.Core.List.{List, [], ◌∷◌, ◌++◌}
use Prim.Native.Nat.{ℕ, zero, suc, ◌+◌, ◌-◌, ◌<◌}
use native.Mathlib.Numerals.{add-one}
use native.Mathlib.Decide.{dec_lt}
use native.Mathlib.Omega.{arith}
use lib.ListN.{length, take, set, get_or, length-append, get_or-append, get_or-eq_default}
use lib.Seq.{take-suc-set, get_or_at, get_or-append-add}
use Rattle.words.specs.Sized.{Sized, list_of, four}

-- ---- filled from the front: n places hold xs, and v is stored at the next
pub filled : (l : List ℕ) {xs : List ℕ} (n m v : ℕ) → m ≡ n + 1 → n < length l → take n l ≡ xs → take m (set l n v) ≡ xs ++ (v ∷ [])
filled l n m v e b h = rw (e, add-one, take-suc-set, h)

-- the same where what is filled in is a list by its rule
pub built : (f : ℕ → ℕ) (l : List ℕ) (n v : ℕ) → n < length l → take n l ≡ list_of f n → v ≡ f n → take (n + 1) (set l n v) ≡ list_of f (n + 1)
unfolding list_of
built f l n v b h e = rw (filled l n (n + 1) v refl b h, e, add-one)

-- ---- a list by its rule
module _ (f : ℕ → ℕ) where
  pub length-list_of : (n : ℕ) → length (list_of f n) ≡ n
  unfolding list_of
  length-list_of zero = refl
  length-list_of (suc n) = rw (length-append, length-list_of n) (add-one n)

  pub get_or-list_of : (n i : ℕ) → i < n → get_or (list_of f n) i 0 ≡ f i
  unfolding list_of
  get_or-list_of zero i h = absurd (omega arith)
  get_or-list_of (suc n) i h = by (get_or-list_of n i) (dec_lt i n)
    where
      by : (i < n → get_or (list_of f n) i 0 ≡ f i) → Dec (i < n) → get_or (list_of f n ++ (f n ∷ [])) i 0 ≡ f i
      by ih (yes l) = get_or-append (list_of f n) (f n ∷ []) 0 i (rw (length-list_of n) l) ∙ ih l
      by ih (no l) =
          let e : i ≡ n = omega arith in
          rw e (get_or_at (list_of f n) (f n) [] 0 n (length-list_of n))

  pub sized_list_of : (n m : ℕ) → 0 < m → ((i : ℕ) → i < n → f i < m) → Sized n m (list_of f n)
  sized_list_of n m z h = record { len = length-list_of n; small = λ i. by i (dec_lt i n) }
    where
      by : (i : ℕ) → Dec (i < n) → get_or (list_of f n) i 0 < m
      by i (yes l) = rw (get_or-list_of n i l) (h i l)
      by i (no l) = rw (get_or-eq_default (list_of f n) 0 {n = i} (rw (length-list_of n) (omega arith))) z

-- ---- one list behind another
pub sized_append : {n k m : ℕ} {a b : List ℕ} → Sized n m a → Sized k m b → Sized (n + k) m (a ++ b)
sized_append {m = m} {a = a} {b = b} s t = record { len = length-append a b ∙ ap₂ ◌+◌ s.len t.len; small = λ i. by i (dec_lt i (length a)) }
  where
    by : (i : ℕ) → Dec (i < length a) → get_or (a ++ b) i 0 < m
    by i (yes l) = rw (get_or-append a b 0 i l) (s.small i)
    by i (no l) =
        let e : length a + (i - length a) ≡ i = omega arith in
        rw e at (rw (← (get_or-append-add a b (i - length a) 0)) at (t.small (i - length a)))

-- ---- a list of four is its four elements
pub four_all : (w : List ℕ) → length w ≡ 4 → four w 0 ≡ w
four_all [] e = absurd (omega arith)
four_all (a ∷ []) e = absurd (omega arith)
four_all (a ∷ b ∷ []) e = absurd (omega arith)
four_all (a ∷ b ∷ c ∷ []) e = absurd (omega arith)
four_all (a ∷ b ∷ c ∷ d ∷ []) e = refl
four_all (a ∷ b ∷ c ∷ d ∷ f ∷ w) e = absurd (omega arith)

pub sized_four : {m : ℕ} (a b c d : ℕ) → a < m → b < m → c < m → d < m → Sized 4 m (a ∷ b ∷ c ∷ d ∷ [])
sized_four {m} a b c d ha hb hc hd = record { len = refl; small = go }
  where
    go : (i : ℕ) → get_or (a ∷ b ∷ c ∷ d ∷ []) i 0 < m
    go zero = ha
    go (suc zero) = hb
    go (suc (suc zero)) = hc
    go (suc (suc (suc zero))) = hd
    go (suc (suc (suc (suc i)))) = omega arith

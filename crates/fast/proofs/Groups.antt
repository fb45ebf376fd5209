-- Rounds eight at a time: seven, and then one, which in the last turn is round 31.
-- Assumes nothing.
use mathlib.Core.Path.{◌≡◌, sym, ap, ◌∙◌}
use mathlib.Core.Bool.{cond}
use mathlib.Core.List.{List}
use Prim.Native.Nat.{ℕ, zero, suc, ◌+◌, ◌*◌, ◌<◌}
use native.Mathlib.Decide.{dec_lt}
use native.Mathlib.Nat.{add-zero, add-suc, add_assoc}
use native.Mathlib.Omega.{arith}
use borrow.Author.Tests.{eq-eqb, ne_eqb}
use lib.Dec.{eqb}
use Rattle.serpent.specs.Block.{round, unround, rounds, unrounds, encrypt_words, decrypt_words}
use Rattle.fast.specs.Turns.{last, unlast, rounds_from, unrounds_from}

module _ (ks : List ℕ) where
  pub rounds_join : (m n : ℕ) (b : List ℕ) → rounds_from ks m n (rounds ks m b) ≡ rounds ks (m + n) b
  unfolding rounds rounds_from
  rounds_join m zero b = rw add-zero
  rounds_join m (suc n) b = rw add-suc (ap (round ks (m + n)) (rounds_join m n b))

  pub unrounds_join : (m n : ℕ) (b : List ℕ) → unrounds ks m (unrounds_from ks m n b) ≡ unrounds ks (m + n) b
  unfolding unrounds unrounds_from
  unrounds_join m zero b = rw add-zero
  unrounds_join m (suc n) b = rw add-suc (unrounds_join m n (unround ks (m + n) b))

  -- two rounds undone, and more of them below others
  pub two : (i : ℕ) (b : List ℕ) → unround ks i (unround ks (i + 1) b) ≡ unrounds_from ks i 2 b
  unfolding unrounds_from
  two i b = ap (λ (k : ℕ). unround ks k (unround ks (i + 1) b)) (sym (add-zero i))

  pub unrounds_below : (i m n : ℕ) (b : List ℕ) → unrounds_from ks i m (unrounds_from ks (i + m) n b) ≡ unrounds_from ks i (m + n) b
  unfolding unrounds_from
  unrounds_below i m zero b = rw add-zero
  unrounds_below i m (suc n) b =
      rw add-suc (unrounds_below i m n (unround ks (i + m + n) b) ∙ ap (λ (k : ℕ). unrounds_from ks i (m + n) (unround ks k b)) (add_assoc i m n))

  -- ---- enciphering: what t turns have made of b
  abbrev pub made : ℕ → List ℕ → List ℕ
  made t b = cond (eqb t 4) (encrypt_words ks b) (rounds ks (8 * t) b)

  pub turn : (b x y z : List ℕ) (t : ℕ) → t < 4 → x ≡ made t b → y ≡ rounds_from ks (8 * t) 7 x
      → z ≡ cond (eqb t 3) (last ks y) (round ks (8 * t + 7) y) → z ≡ made (t + 1) b
  unfolding rounds encrypt_words last
  turn b x y z t l p q r = by (dec_lt t 3)
    where
      before : y ≡ rounds ks (8 * t + 7) b
      before = q ∙ ap (rounds_from ks (8 * t) 7) (p ∙ (rw (ne_eqb t 4 (λ e. omega arith)))) ∙ rounds_join (8 * t) 7 b

      by : Dec (t < 3) → z ≡ made (t + 1) b
      by (yes m) =
          let e : 8 * (t + 1) ≡ suc (8 * t + 7) = omega arith in
          r ∙ rw (ne_eqb t 3 (λ h. omega arith), ne_eqb (t + 1) 4 (λ h. omega arith), e) (ap (round ks (8 * t + 7)) before)
      by (no m) =
          let e : t ≡ 3 = omega arith in
          r ∙ rw (eq-eqb t 3 e, eq-eqb (t + 1) 4 (omega arith)) (ap (last ks) (before ∙ ap (λ (n : ℕ). rounds ks (8 * n + 7) b) e))

  -- ---- deciphering: what is left to do on x where t turns are left
  abbrev pub left : ℕ → List ℕ → List ℕ
  left t x = cond (eqb t 4) (decrypt_words ks x) (unrounds ks (8 * t) x)

  pub unturn : (x y z : List ℕ) (t : ℕ) → t < 4 → y ≡ cond (eqb t 3) (unlast ks x) (unround ks (8 * t + 7) x)
      → z ≡ unrounds_from ks (8 * t) 7 y → left t z ≡ left (t + 1) x
  unfolding unrounds decrypt_words unlast
  unturn x y z t l q r = rw (ne_eqb t 4 (λ h. omega arith)) (by (dec_lt t 3))
    where
      after : unrounds ks (8 * t) z ≡ unrounds ks (8 * t + 7) y
      after = ap (unrounds ks (8 * t)) r ∙ unrounds_join (8 * t) 7 y

      by : Dec (t < 3) → unrounds ks (8 * t) z ≡ left (t + 1) x
      by (yes m) =
          let e : 8 * (t + 1) ≡ suc (8 * t + 7) = omega arith in
          let f = ne_eqb (t + 1) 4 (λ h. omega arith) in
          after ∙ rw (f, e) (ap (unrounds ks (8 * t + 7)) (q ∙ rw (ne_eqb t 3 (λ h. omega arith))))
      by (no m) =
          let e : t ≡ 3 = omega arith in
          let f : 8 * t + 7 ≡ 31 = omega arith in
          after ∙ rw (f, eq-eqb (t + 1) 4 (omega arith)) (ap (unrounds ks 31) (q ∙ rw (eq-eqb t 3 e)))

-- The rounds undone on each lane: two at a time, and what is left to undo of rounds 23 to 0.
-- Assumes nothing.
use mathlib.Core.Path.{◌≡◌, refl, ap, ◌∙◌}
use mathlib.Core.List.{List}
use Prim.Native.Nat.{ℕ, ◌+◌, ◌*◌, ◌%◌, ◌<◌}
use native.Mathlib.Omega.{arith}
use lib.ListN.{length}
use Rattle.words.specs.Sized.{four}
use Rattle.serpent.specs.Block.{unround, unrounds, decrypt_words}
use Rattle.fast.specs.Turns.{unlast, unmixed, unrounds_from}
use Rattle.fast.specs.Lanes.{lane, put_lane, Lanes}
use Rattle.fast.proofs.Groups.{two, unrounds_join, unrounds_below}
use Rattle.fast.proofs.Sixteen.{Going, next_lane}
use Rattle.fast.proofs.Unmixed.{undoes}

-- round u and the one below it undone, by boxes m and n
pub pair_undone : (ks : List ℕ) (u i m n : ℕ) {upper lower : List ℕ} (x : List ℕ)
    → u ≡ i + 1 → m % 8 ≡ u % 8 → n % 8 ≡ i % 8
    → upper ≡ four ks (4 * u) → lower ≡ four ks (4 * i) → unmixed n lower (unmixed m upper x) ≡ unrounds_from ks i 2 x
pair_undone ks u i m n {upper} x e f g up low =
    let first : unmixed m upper x ≡ unround ks (i + 1) x = undoes ks u m x f up ∙ ap (λ (k : ℕ). unround ks k x) e in
    undoes ks i n (unmixed m upper x) g low ∙ ap (unround ks i) first ∙ two ks i x

-- round u and the one below it undone on the next lane, by boxes m and n
pub next_pair : (ks : List ℕ) (u i m n : ℕ) {w o upper lower : List ℕ} {j : ℕ} (x y z o' : List ℕ) → u ≡ i + 1 → m % 8 ≡ u % 8 → n % 8 ≡ i % 8
    → Going (λ a b. b ≡ unrounds_from ks i 2 a) w o j → j < 16 → length z ≡ 4 → upper ≡ four ks (4 * u) → lower ≡ four ks (4 * i) → x ≡ lane o j
    → y ≡ unmixed m upper x → z ≡ unmixed n lower y → o' ≡ put_lane o j z → Going (λ a b. b ≡ unrounds_from ks i 2 a) w o' (j + 1)
next_pair ks u i m n {lower = lower} x y z o' e f g going l size up low ex ey ez eo =
    next_lane _ x z o' going l size ex (ez ∙ ap (unmixed n lower) ey ∙ pair_undone ks u i m n x e f g up low) eo

-- three pairs of rounds are six
pub three_pairs : (ks : List ℕ) (t : ℕ) {w x y z : List ℕ} → Lanes (unrounds_from ks (8 * t + 4) 2) w x → Lanes (unrounds_from ks (8 * t + 2) 2) x y
    → Lanes (unrounds_from ks (8 * t) 2) y z → Lanes (unrounds_from ks (8 * t) 6) w z
three_pairs ks t {w} {x} {y} {z} p q r = record { size = r.size; each = go }
  where
    go : (j : ℕ) → j < 16 → lane z j ≡ unrounds_from ks (8 * t) 6 (lane w j)
    go j l =
        r.each j l ∙ ap (unrounds_from ks (8 * t) 2) (q.each j l)
        ∙ unrounds_below ks (8 * t) 2 2 (lane x j) ∙ ap (unrounds_from ks (8 * t) 4) (p.each j l) ∙ unrounds_below ks (8 * t) 4 2 (lane w j)

-- rounds n - 1 to 0 undone on each lane of w give what all 24 give on that lane of v
pub record Undoing (ks v w : List ℕ) (n : ℕ) : Type 0 where
  pub size : length w ≡ 64
  pub each : (j : ℕ) → j < 16 → unrounds ks n (lane w j) ≡ unrounds ks 24 (lane v j)

pub undoing_none : (ks v : List ℕ) → length v ≡ 64 → Undoing ks v v 24
undoing_none ks v s = record { size = s; each = λ j l. refl }

-- eight rounds more
pub undoing_turn : (ks : List ℕ) (t : ℕ) {v w x y : List ℕ} → Undoing ks v w (8 * (t + 1)) → Lanes (unrounds_from ks (8 * t + 6) 2) w x → Lanes (unrounds_from ks (8 * t) 6) x y
    → Undoing ks v y (8 * t)
undoing_turn ks t {v} {w} {x} {y} u p q = record { size = q.size; each = go }
  where
    e : 8 * (t + 1) ≡ 8 * t + 6 + 2
    e = omega arith

    go : (j : ℕ) → j < 16 → unrounds ks (8 * t) (lane y j) ≡ unrounds ks 24 (lane v j)
    go j l =
        ap (unrounds ks (8 * t)) (q.each j l) ∙ unrounds_join ks (8 * t) 6 (lane x j) ∙ ap (unrounds ks (8 * t + 6)) (p.each j l)
        ∙ unrounds_join ks (8 * t + 6) 2 (lane w j) ∙ (rw e at (u.each j l))

-- rounds 31 and 30, six rounds, and those that were left
pub undone : (ks : List ℕ) {w x v y : List ℕ} → Lanes (λ (b : List ℕ). unround ks 30 (unlast ks b)) w x → Lanes (unrounds_from ks 24 6) x v → Undoing ks v y 0 → Lanes (decrypt_words ks) w y
unfolding unrounds decrypt_words unlast
undone ks {w} {x} {v} {y} p q u = record { size = u.size; each = go }
  where
    go : (j : ℕ) → j < 16 → lane y j ≡ decrypt_words ks (lane w j)
    go j l =
        u.each j l ∙ ap (unrounds ks 24) (q.each j l) ∙ unrounds_join ks 24 6 (lane x j) ∙ ap (unrounds ks 30) (p.each j l)

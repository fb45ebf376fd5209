-- A function applied to each of sixteen lanes, one after the other; lanes loaded from blocks, and stored as bytes.
-- Assumes nothing.
use mathlib.Core.Path.{◌≡◌, refl, sym, ap, ap₂, subst, ◌∙◌}
use mathlib.Core.List.{List, ◌++◌}
use Prim.Native.Nat.{ℕ, zero, suc, ◌+◌, ◌*◌, ◌≤◌, ◌<◌}
use native.Mathlib.Decide.{dec_lt}
use native.Mathlib.Nat.{add-zero}
use native.Mathlib.Numerals.{add-one}
use native.Mathlib.Omega.{arith}
use lib.ListN.{length, take, drop, get_or, set, length-set, length-append, length-drop}
use lib.Seq.{take_all, take-append-le, drop-append-le, drop_at}
use Rattle.std.proofs.lemmas.Grind.{elements}
use Rattle.words.specs.Blocks.{block_at}
use Rattle.words.specs.Bytes.{words_of, bytes_of}
use Rattle.words.proofs.Lists.{four_all}
use Rattle.serpent.specs.Block.{decrypt_words, decrypt_bytes}
use Rattle.fast.specs.Lanes.{lane, put_lane, EachLane, Lanes, Loaded, lane_bytes, decrypt_each}
use Rattle.serpent.proofs.Lengths.{decrypted_sixteen}

-- ---- a lane stored, its first n words and all four
unfoldable pub put_words : List ℕ → ℕ → List ℕ → ℕ → List ℕ
put_words w j x zero = w
put_words w j x (suc n) = set (put_words w j x n) (j + 16 * n) (get_or x n 0)

pub put_none : (w : List ℕ) (j : ℕ) (x : List ℕ) → put_words w j x 0 ≡ w
unfolding put_words
put_none w j x = refl

pub put_more : (w : List ℕ) (j : ℕ) (x : List ℕ) (n : ℕ)
    → put_words w j x (n + 1) ≡ set (put_words w j x n) (j + 16 * n) (get_or x n 0)
unfolding put_words
put_more w j x n = ap (put_words w j x) (add-one n)

pub put_four : (w : List ℕ) (j : ℕ) (x : List ℕ) → put_words w j x 4 ≡ put_lane w j x
unfolding put_words
put_four w j x = rw add-zero

pub ruleset words_put = (put_none, put_more, put_four)

module _ (o : List ℕ) (j : ℕ) (x : List ℕ) (l : j < 16) where
  lane_other : (i : ℕ) → i < 16 → ¬ (i ≡ j) → lane (put_lane o j x) i ≡ lane o i
  lane_other i m h = grind (arith, elements)

  lane_same : length o ≡ 64 → length x ≡ 4 → lane (put_lane o j x) j ≡ x
  lane_same s n = grind (arith, elements) ∙ four_all x n

-- ---- lanes below j are done, and the others are as they were
pub record Going (R : List ℕ → List ℕ → Type 0) (w o : List ℕ) (j : ℕ) : Type 0 where
  pub below : j ≤ 16
  pub size : length o ≡ 64
  pub done : (i : ℕ) → i < j → R (lane w i) (lane o i)
  pub rest : (i : ℕ) → j ≤ i → i < 16 → lane o i ≡ lane w i

pub next_lane : (R : List ℕ → List ℕ → Type 0) {w o : List ℕ} {j : ℕ} (x y o' : List ℕ) → Going R w o j → j < 16
    → length y ≡ 4 → x ≡ lane o j → R x y → o' ≡ put_lane o j y → Going R w o' (j + 1)
next_lane R {w} {o} {j} x y o' g l n p q r = record {
  below = omega arith;
  size = rw r (simp length-set g.size);
  done = λ i h. by i h (dec_lt i j);
  rest = λ i h k. others i k (λ e. omega arith) ∙ g.rest i (omega arith) k;
}
  where
    same : lane o' j ≡ y
    same = ap (λ (v : List ℕ). lane v j) r ∙ lane_same o j y l g.size n

    others : (i : ℕ) → i < 16 → ¬ (i ≡ j) → lane o' i ≡ lane o i
    others i m h = ap (λ (v : List ℕ). lane v i) r ∙ lane_other o j y l i m h

    by : (i : ℕ) → i < j + 1 → Dec (i < j) → R (lane w i) (lane o' i)
    by i h (yes m) = subst (R (lane w i)) (sym (others i (omega arith) (λ e. omega arith))) (g.done i m)
    by i h (no m) =
        let e : i ≡ j = omega arith in
        rw (e, same) (subst (λ (v : List ℕ). R v y) (p ∙ g.rest j (omega arith) l) q)

-- a step that gives f of a lane
pub each_by : (f : List ℕ → List ℕ) {R : List ℕ → List ℕ → Type 0} {w r : List ℕ} → EachLane R w r
    → ((x y : List ℕ) → R x y → y ≡ f x) → Lanes f w r
each_by f e h = record { size = e.size; each = λ j l. h _ _ (e.each j l) }

-- ---- lanes loaded from the front
pub load_lane : (bytes : List ℕ) {o : List ℕ} {j : ℕ} (y o' : List ℕ) → Loaded bytes o j → j < 16 → length y ≡ 4
    → y ≡ words_of (block_at bytes (j * 16)) 4 → o' ≡ put_lane o j y → Loaded bytes o' (j + 1)
load_lane bytes {o} {j} y o' s l n q r = record { size = rw r (simp length-set s.size); each = λ i h. by i h (dec_lt i j) }
  where
    by : (i : ℕ) → i < j + 1 → Dec (i < j) → lane o' i ≡ words_of (block_at bytes (i * 16)) 4
    by i h (yes m) = ap (λ (v : List ℕ). lane v i) r ∙ lane_other o j y l i (omega arith) (λ e. omega arith) ∙ s.each i m
    by i h (no m) =
        let e : i ≡ j = omega arith in
        rw (e, r) (lane_same o j y l s.size n ∙ q)

-- ---- the bytes of one lane more
pub lane_bytes_more : (w : List ℕ) (j : ℕ) → lane_bytes w (j + 1) ≡ lane_bytes w j ++ bytes_of (lane w j) 16
unfolding lane_bytes
lane_bytes_more w j = ap (lane_bytes w) (add-one j)

-- ---- sixteen blocks loaded, each lane deciphered, and stored, are the blocks deciphered
pub each_deciphered : (ks bytes : List ℕ) {w r : List ℕ} → Loaded bytes w 16 → Lanes (decrypt_words ks) w r → (n : ℕ) → n ≤ 16 → lane_bytes r n ≡ decrypt_each ks n bytes
unfolding lane_bytes decrypt_each decrypt_bytes
each_deciphered ks bytes s d zero h = refl
each_deciphered ks bytes s d (suc n) h =
    ap₂ (λ (a b : List ℕ). a ++ b)
    (each_deciphered ks bytes s d n (omega arith))
    (ap (λ (x : List ℕ). bytes_of x 16) (d.each n (omega arith) ∙ ap (decrypt_words ks) (s.each n (omega arith))))

-- ---- of blocks deciphered one after the other, the one at a place
pub length-each : (ks bytes : List ℕ) (n : ℕ) → length (decrypt_each ks n bytes) ≡ n * 16
unfolding decrypt_each
length-each ks bytes zero = refl
length-each ks bytes (suc n) =
    length-append (decrypt_each ks n bytes) _ ∙ ap₂ (λ (a b : ℕ). a + b) (length-each ks bytes n) (decrypted_sixteen ks _) ∙ over n
  where
    over : (n : ℕ) → n * 16 + 16 ≡ suc n * 16
    over n = omega arith

pub each_at : (ks bytes : List ℕ) (n j : ℕ) → j < n → take 16 (drop (j * 16) (decrypt_each ks n bytes)) ≡ decrypt_bytes ks (block_at bytes (j * 16))
unfolding decrypt_each
each_at ks bytes zero j h = absurd (omega arith)
each_at ks bytes (suc n) j h = by (each_at ks bytes n j) (dec_lt j n)
  where
    long : length (decrypt_each ks n bytes) ≡ n * 16
    long = length-each ks bytes n

    by : (j < n → take 16 (drop (j * 16) (decrypt_each ks n bytes)) ≡ decrypt_bytes ks (block_at bytes (j * 16))) → Dec (j < n)
        → take 16 (drop (j * 16) (decrypt_each ks n bytes ++ decrypt_bytes ks (block_at bytes (n * 16)))) ≡ decrypt_bytes ks (block_at bytes (j * 16))
    by earlier (yes l) =
        ap (take 16) (drop-append-le (j * 16) (decrypt_each ks n bytes) _ (omega (arith, long)))
        ∙ take-append-le 16 (drop (j * 16) (decrypt_each ks n bytes)) _ (omega (arith, long, length-drop (j * 16) (decrypt_each ks n bytes)))
        ∙ earlier l
    by earlier (no l) =
        let e : j ≡ n = omega arith in
        rw e (ap (take 16) (drop_at (decrypt_each ks n bytes) _ (n * 16) long) ∙ take_all 16 _ (omega (arith, decrypted_sixteen ks (block_at bytes (n * 16)))))

-- The linear transform: the code's steps are the definition's, and the steps are undone.
-- Assumes nothing.
use mathlib.Core.Path.{◌≡◌, refl, ap, ap₂, ◌∙◌, subst}
use mathlib.Core.Bool.{Bool, true, ◌&&◌, not}
use mathlib.Core.List.{List, [], ◌∷◌, ◌++◌}
use Prim.Native.Nat.{ℕ, zero, suc, ◌-◌, ◌*◌, ◌%◌, ◌^◌, ◌<◌}
use native.Mathlib.Nat.{mod-lt}
use native.Mathlib.Omega.{arith}
use lib.Bits.{bit_xor, xor_lt}
use lib.Dec.{T, T_not, ltb, leb, eqb, eqb_refl, ltb→lt, leb→le}
use lib.ListN.{get_or, set, length-set}
use lib.Pow.{pow_pos}
use lib.Seq.{get_or-set_same, get_or-set_other, set-set, set-get_or}
use mir.Facts.{and_yes}
use Rattle.words.specs.Sized.{FourWords}
use Rattle.words.specs.Rotation.{rotl, shl}
use Rattle.words.specs.Inverse.{Inverse}
use Rattle.words.proofs.Rotate.{rotl_lt, rotl_back}
use Rattle.words.proofs.Xor.{xor_assoc, xor_twice}
use Rattle.bitslice.specs.Linear.{Step, turn, mix, mix_shl, step, run, back, undo, linear, linear_transform, linear_transform_inv}

-- ---- one step more, as the code has it: of a rotation it has the result of a call
pub turned : {l m : List ℕ} → l ≡ m → (i n : ℕ) {r : ℕ} → r ≡ rotl n (get_or l i 0) → set l i r ≡ step (turn i n) m
unfolding step
turned {l} p i n e = ap (set l i) e ∙ ap (step (turn i n)) p

pub mixed : {l m : List ℕ} → l ≡ m → (i j k : ℕ) → set l i (bit_xor (get_or l i 0) (bit_xor (get_or l j 0) (get_or l k 0))) ≡ step (mix i j k) m
unfolding step
mixed p i j k = ap (step (mix i j k)) p

pub mixed_shl : {l m : List ℕ} → l ≡ m → (i j k n : ℕ) → set l i (bit_xor (bit_xor (get_or l i 0) (get_or l j 0)) (get_or l k 0 * 2 ^ n % 2 ^ 32)) ≡ step (mix_shl i j k n) m
unfolding step shl
mixed_shl {l} p i j k n = ap (set l i) (xor_assoc (get_or l i 0) (get_or l j 0) _) ∙ ap (step (mix_shl i j k n)) p

-- ---- a step keeps four words, and is undone
set_below : (x : List ℕ) (i v : ℕ) → v < 2 ^ 32 → ((k : ℕ) → get_or x k 0 < 2 ^ 32) → (k : ℕ) → get_or (set x i v) k 0 < 2 ^ 32
set_below [] i v l h k = h k
set_below (a ∷ x) zero v l h zero = l
set_below (a ∷ x) zero v l h (suc k) = h (suc k)
set_below (a ∷ x) (suc i) v l h zero = h zero
set_below (a ∷ x) (suc i) v l h (suc k) = set_below x i v l (λ m. h (suc m)) k

set_words : (x : List ℕ) (i v : ℕ) → v < 2 ^ 32 → FourWords x → FourWords (set x i v)
set_words x i v l h = record { len = length-set x i v ∙ h.len; small = set_below x i v l h.small }

put_back : (x : List ℕ) (i v : ℕ) {w : ℕ} → w ≡ get_or x i 0 → set (set x i v) i w ≡ x
put_back x i v e = ap (set (set x i v) i) e ∙ set-set x i v (get_or x i 0) ∙ set-get_or x i 0

shl_lt : (n x : ℕ) → shl n x < 2 ^ 32
unfolding shl
shl_lt n x = mod-lt _ (pow_pos 32)

-- a step that names words 0 to 3, others than the one it changes, and at most 32 places
abbrev ok : Step → Bool
ok (turn i n) = ltb i 4 && leb n 32
ok (mix i j k) = ltb i 4 && (not (eqb j i) && not (eqb k i))
ok (mix_shl i j k n) = ltb i 4 && (not (eqb j i) && not (eqb k i))

step_words : (s : Step) (x : List ℕ) → T (ok s) → FourWords x → FourWords (step s x)
unfolding step
step_words (turn i n) x t h = set_words x i _ (rotl_lt n (get_or x i 0) (leb→le n 32 (and_yes (ltb i 4) _ t).1) (h.small i)) h
step_words (mix i j k) x t h = set_words x i _ (xor_lt 32 _ _ (h.small i) (xor_lt 32 _ _ (h.small j) (h.small k))) h
step_words (mix_shl i j k n) x t h = set_words x i _ (xor_lt 32 _ _ (h.small i) (xor_lt 32 _ _ (h.small j) (shl_lt n (get_or x k 0)))) h

here : (x : List ℕ) (i v : ℕ) → T (ltb i 4) → FourWords x → get_or (set x i v) i 0 ≡ v
here x i v t h = get_or-set_same x i v 0 (omega (arith, ltb→lt i 4 t, h.len))

there : (x : List ℕ) (i j v : ℕ) → T (not (eqb j i)) → get_or (set x i v) j 0 ≡ get_or x j 0
there x i j v t = get_or-set_other x i j v 0 (λ e. T_not (eqb j i) t (subst (λ (m : ℕ). T (eqb j m)) e (eqb_refl j)))

step_back : (s : Step) (x : List ℕ) → T (ok s) → FourWords x → step (back s) (step s x) ≡ x
unfolding step back
step_back (turn i n) x t h =
    let ok = and_yes (ltb i 4) _ t in
    put_back x i _ (ap (rotl (32 - n)) (here x i _ ok.0 h) ∙ rotl_back n (get_or x i 0) (leb→le n 32 ok.1) (h.small i))
step_back (mix i j k) x t h =
    let ok = and_yes (ltb i 4) _ t in
    let apart = and_yes (not (eqb j i)) _ ok.1 in
    put_back x i _
    (ap₂ bit_xor (here x i _ ok.0 h) (ap₂ bit_xor (there x i j _ apart.0) (there x i k _ apart.1))
    ∙ xor_twice (get_or x i 0) _)
step_back (mix_shl i j k n) x t h =
    let ok = and_yes (ltb i 4) _ t in
    let apart = and_yes (not (eqb j i)) _ ok.1 in
    put_back x i _
    (ap₂ bit_xor (here x i _ ok.0 h) (ap₂ bit_xor (there x i j _ apart.0) (ap (shl n) (there x i k _ apart.1)))
    ∙ xor_twice (get_or x i 0) _)

-- ---- a list of steps keeps four words, and is undone
abbrev all_ok : List Step → Bool
all_ok [] = true
all_ok (s ∷ ss) = ok s && all_ok ss

run_words : (ss : List Step) → T (all_ok ss) → (x : List ℕ) → FourWords x → FourWords (run ss x)
unfolding run
run_words [] t x h = h
run_words (s ∷ ss) t x h = let t' = and_yes (ok s) _ t in run_words ss t'.1 (step s x) (step_words s x t'.0 h)

run_append : (ss ts : List Step) (x : List ℕ) → run (ss ++ ts) x ≡ run ts (run ss x)
unfolding run
run_append [] ts x = refl
run_append (s ∷ ss) ts x = run_append ss ts (step s x)

run_undo : (ss : List Step) → T (all_ok ss) → (x : List ℕ) → FourWords x → run (undo ss) (run ss x) ≡ x
unfolding run undo
run_undo [] t x h = refl
run_undo (s ∷ ss) t x h =
    let t' = and_yes (ok s) _ t in
    run_append (undo ss) (back s ∷ []) (run ss (step s x))
    ∙ ap (step (back s)) (run_undo ss t'.1 (step s x) (step_words s x t'.0 h)) ∙ step_back s x t'.0 h

pub linear_inverse : Inverse FourWords FourWords linear_transform linear_transform_inv
unfolding linear undo back
linear_inverse = record {
  there = run_words linear tt;
  back = run_words (undo linear) tt;
  undo = run_undo linear tt;
  redo = run_undo (undo linear) tt;
}

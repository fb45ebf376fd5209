-- The chain deciphered from one place on to another, in however many turns.
-- Assumes nothing.
use mathlib.Core.Path.{◌≡◌, sym, ap, ◌∙◌}
use mathlib.Core.List.{List}
use Prim.Native.Nat.{ℕ, ◌+◌, ◌*◌, ◌≤◌, ◌<◌}
use native.Mathlib.Omega.{arith}
use lib.ListN.{length, take, drop, length-drop, take-append-drop}
use lib.Seq.{drop-drop, take-append-le, drop-append-le, length-take-le, length-paste}
use Rattle.words.specs.Blocks.{put_at}
use Rattle.words.proofs.Places.{put_there}
use Rattle.words.proofs.Filled.{filled_more}
use Rattle.chain.specs.Chain.{xor, last_or, blocks}
use Rattle.chain.specs.Turns.{At, Onward}
use Rattle.chain.proofs.Blocks.{block}
use Rattle.chain.proofs.Links.{last_more, decipher_more}

pub onward_then : {D : List ℕ → List ℕ} {c out₀ before₀ out₁ before₁ out₂ before₂ : List ℕ} {i₀ i₁ i₂ : ℕ}
    → Onward D c out₀ before₀ i₀ out₁ before₁ i₁ → Onward D c out₁ before₁ i₁ out₂ before₂ i₂ → Onward D c out₀ before₀ i₀ out₂ before₂ i₂
onward_then p q = record { size = q.size ∙ p.size; on = λ s was a. q.on s was (p.on s was a) }

-- to a place that is written in another way
pub onward_to : {D : List ℕ → List ℕ} {c out₀ before₀ out before : List ℕ} {i₀ i j : ℕ} → i ≡ j → Onward D c out₀ before₀ i₀ out before i → Onward D c out₀ before₀ i₀ out before j
onward_to e p = rw e at p

-- one text more
pub onward_one : (D : List ℕ → List ℕ) {c t before out out' r : List ℕ} {i : ℕ} → t ≡ xor (D (block i c)) before → r ≡ block i c
    → out' ≡ put_at out (i * 16) t → length t ≡ 16 → i * 16 + 16 ≤ length out → Onward D c out before i out' r (i + 1)
onward_one D {c} {t} {before} {out} {out'} {r} {i} e h p n room = record {
  size = ap length p ∙ ap length (sym (put_there out (i * 16) t room)) ∙ length-paste out (i * 16) t 16 room (omega arith);
  on = go;
}
  where
    go : (s was : List ℕ) → At D s c was out before i → At D s c was out' r (i + 1)
    go s was a =
        let same : t ≡ xor (D (block i c)) (last_or s (blocks i c)) = e ∙ ap (xor (D (block i c))) a.last in
        record {
          last = h ∙ sym (last_more s i c);
          filled = rw (p, decipher_more D s i c, ← same) (filled_more was out i _ t a.filled n room);
        }

-- ---- of the sixteen blocks at 16 s, block j is block 16 s + j of all
within : (m k n : ℕ) (x : List ℕ) → k + m ≤ n → n ≤ length x → take m (drop k (take n x)) ≡ take m (drop k x)
within m k n x h l =
    let long : length (take n x) ≡ n = length-take-le n x l in
    sym (take-append-le m (drop k (take n x)) (drop n x) (omega (arith, length-drop k (take n x))))
    ∙ ap (take m) (sym (drop-append-le k (take n x) (drop n x) (omega arith)))
    ∙ ap (λ (y : List ℕ). take m (drop k y)) (take-append-drop n x)

pub among_sixteen : (c : List ℕ) {sixteen : List ℕ} (s j : ℕ) → j < 16 → take 256 (drop (s * 256) c) ≡ sixteen → s * 256 + 256 ≤ length c
    → take 16 (drop (j * 16) sixteen) ≡ block (s * 16 + j) c
among_sixteen c s j l e h =
    let place : s * 256 + j * 16 ≡ (s * 16 + j) * 16 = omega arith in
    ap (λ x. take 16 (drop (j * 16) x)) (sym e)
    ∙ within 16 (j * 16) 256 (drop (s * 256) c) (omega arith) (omega (arith, length-drop (s * 256) c))
    ∙ ap (take 16) (drop-drop (j * 16) (s * 256) c) ∙ ap (λ (k : ℕ). take 16 (drop k c)) place

-- Bytes in chunks: how many there are, the one at a place, and the word that a chunk of four is.
-- Assumes nothing.
use Rattle.std.proofs.Common.{◌≡◌, ℕ, zero, suc, ◌+◌, ◌*◌, ◌<◌, List, length, take, drop, get_or, refl, ap, ◌∙◌, arith}
use Rattle.std.specs.Simd.{first_chunks}
use native.Mathlib.Nat.{add-zero, suc-mul, zero-mul}
use lib.Seq.{drop-drop, get_or-take, get_or-drop}
use Rattle.words.specs.Bytes.{word_at}

pub chunk_count : (size n : ℕ) (bytes : List ℕ) → length (first_chunks size n bytes) ≡ n
chunk_count size zero bytes = refl
chunk_count size (suc n) bytes = ap suc (chunk_count size n (drop size bytes))

pub chunk_at : (size n k : ℕ) (bytes d : List ℕ) → k < n → get_or (first_chunks size n bytes) k d ≡ take size (drop (k * size) bytes)
chunk_at size zero k bytes d h = absurd (omega arith)
chunk_at size (suc n) zero bytes d h = rw zero-mul refl
chunk_at size (suc n) (suc k) bytes d h =
    let place : size + k * size ≡ suc k * size = omega (arith, suc-mul k size) in
    chunk_at size n k (drop size bytes) d (omega arith) ∙ ap (take size) (drop-drop (k * size) size bytes ∙ ap (λ q. drop q bytes) place)

module _ (n k : ℕ) (bytes d : List ℕ) (h : k < n) where
  byte_in : (j : ℕ) → j < 4 → get_or (get_or (first_chunks 4 n bytes) k d) j 0 ≡ get_or bytes (4 * k + j) 0
  byte_in j l =
      let place : k * 4 + j ≡ 4 * k + j = omega arith in
      ap (λ c. get_or c j 0) (chunk_at 4 n k bytes d h) ∙ get_or-take 4 (drop (k * 4) bytes) j 0 l ∙ get_or-drop (k * 4) bytes j 0
      ∙ ap (λ q. get_or bytes q 0) place

  pub chunk_word : word_at (get_or (first_chunks 4 n bytes) k d) 0 ≡ word_at bytes (4 * k)
  chunk_word = rw (byte_in 0 (omega arith), byte_in 1 (omega arith), byte_in 2 (omega arith), byte_in 3 (omega arith), add-zero) refl

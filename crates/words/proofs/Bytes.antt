-- Words as bytes, and back.
-- Assumes nothing.
use mathlib.Core.Path.{◌≡◌, refl, sym, ◌∙◌}
use mathlib.Core.List.{List, [], ◌++◌}
use Prim.Native.Nat.{ℕ, zero, suc, ◌+◌, ◌*◌, ◌/◌, ◌%◌, ◌^◌, ◌<◌}
use native.Mathlib.Nat.{add-zero, mod-lt, div-one}
use native.Mathlib.Omega.{arith}
use lib.Dec.{lit<}
use lib.ListN.{get_or}
use lib.Seq.{ext_get_or}
use Rattle.words.specs.Sized.{FourWords, Block, list_of}
use Rattle.words.specs.Bytes.{word_of, word_at, words_of, le_byte, byte_at, bytes_of}
use Rattle.words.specs.Inverse.{Inverse}
use Rattle.std.specs.Int.{to_le_bytes}
use Rattle.std.proofs.Common.{w32, append_assoc}
use Rattle.std.proofs.lemmas.Nat.{from_le_bytes-to_le_bytes_4}
use Rattle.std.proofs.lemmas.Slice.{overwrites}
use Rattle.words.proofs.Lists.{length-list_of, get_or-list_of, sized_list_of, four_all}

-- ---- byte r of the word at p is the byte at p + r
module _ (b : List ℕ) (small : (i : ℕ) → get_or b i 0 < 2 ^ 8) (p : ℕ) where
  pub word_small : word_at b p < 2 ^ 32
  unfolding word_of
  word_small = omega (arith, small p, small (p + 1), small (p + 2), small (p + 3))

  word_byte : (r : ℕ) → r < 4 → word_at b p / 2 ^ (8 * r) % 2 ^ 8 ≡ get_or b (p + r) 0
  unfolding word_of
  word_byte zero h = rw add-zero (omega (arith, small p))
  word_byte (suc zero) h = omega (arith, small p, small (p + 1))
  word_byte (suc (suc zero)) h = omega (arith, small p, small (p + 1), small (p + 2))
  word_byte (suc (suc (suc zero))) h = omega (arith, small p, small (p + 1), small (p + 2), small (p + 3))
  word_byte (suc (suc (suc (suc r)))) h = absurd (omega arith)

pub word_back : (x : ℕ) → x < 2 ^ 32
    → word_of (x / 2 ^ 0 % 2 ^ 8) (x / 2 ^ 8 % 2 ^ 8) (x / 2 ^ 16 % 2 ^ 8) (x / 2 ^ 24 % 2 ^ 8) ≡ x
unfolding word_of
word_back x h = rw div-one (from_le_bytes-to_le_bytes_4 x h)

-- ---- the bytes of no word, and of one more
pub bytes_none : (w : List ℕ) → bytes_of w 0 ≡ []
unfolding bytes_of list_of
bytes_none w = refl

module _ (w : List ℕ) (n : ℕ) where
  byte_in : (i r : ℕ) → i ≡ 4 * n + r → r < 4 → byte_at w i ≡ le_byte (get_or w n 0) r
  unfolding byte_at
  byte_in i r e h =
      let q : i / 4 ≡ n = omega arith in
      let m : i % 4 ≡ r = omega arith in
      rw (q, m)

  pub bytes_more : bytes_of w (4 * (n + 1)) ≡ bytes_of w (4 * n) ++ to_le_bytes w32 (get_or w n 0)
  unfolding bytes_of list_of
  bytes_more =
      let k = 4 * n in
      let e : 4 * (n + 1) ≡ suc (suc (suc (suc k))) = omega arith in
      let byte₀ = byte_in k 0 (omega arith) (lit< tt) in
      let byte₁ = byte_in (suc k) 1 (omega arith) (lit< tt) in
      let byte₂ = byte_in (suc (suc k)) 2 (omega arith) (lit< tt) in
      let byte₃ = byte_in (suc (suc (suc k))) 3 (omega arith) (lit< tt) in
      rw (e, byte₀, byte₁, byte₂, byte₃, div-one) (simp append_assoc)

-- for a loop that puts the bytes of a word a turn
pub ruleset word_by_word = (bytes_none, bytes_more, overwrites)

-- ---- sixteen bytes and four words
read_back : (b : List ℕ) → Block b → bytes_of (words_of b 4) 16 ≡ b
unfolding words_of bytes_of byte_at
read_back b s = ext_get_or 0 _ b (length-list_of _ 16 ∙ sym s.len) λ i h.
    let l : i < 16 = rw length-list_of at h in
    let e : 4 * (i / 4) + i % 4 ≡ i = omega arith in
    rw (get_or-list_of _ 16 i l, get_or-list_of (λ j. word_at b (4 * j)) 4 (i / 4) (omega arith), word_byte b s.small (4 * (i / 4)) (i % 4) (omega arith), e)

write_back : (w : List ℕ) → FourWords w → words_of (bytes_of w 16) 4 ≡ w
unfolding words_of bytes_of byte_at list_of
write_back w s = rw (word_back (get_or w 0 0) (s.small 0), word_back (get_or w 1 0) (s.small 1), word_back (get_or w 2 0) (s.small 2), word_back (get_or w 3 0) (s.small 3)) (four_all w s.len)

pub bytes_inverse : Inverse Block FourWords (λ b. words_of b 4) (λ w. bytes_of w 16)
unfolding words_of bytes_of byte_at
bytes_inverse = record {
  there = λ b s. sized_list_of _ 4 (2 ^ 32) (lit< tt) (λ i _. word_small b s.small (4 * i));
  back = λ w s. sized_list_of _ 16 (2 ^ 8) (lit< tt) (λ i _. mod-lt _ (lit< tt));
  undo = read_back;
  redo = write_back;
}

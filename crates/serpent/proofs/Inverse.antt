-- Deciphering undoes enciphering, and the other way round, under any 33 round keys.
-- Assumes nothing.
use mathlib.Core.Path.{◌≡◌}
use mathlib.Core.List.{List}
use Prim.Native.Nat.{ℕ, zero, suc, ◌+◌, ◌*◌, ◌^◌, ◌<◌}
use lib.Bits.{bit_xor, xor_lt}
use lib.ListN.{get_or}
use Rattle.words.specs.Sized.{FourWords, Block}
use Rattle.words.specs.Inverse.{Inverse}
use Rattle.words.proofs.Bytes.{bytes_inverse}
use Rattle.words.proofs.Inverse.{id_inverse, turned, then}
use Rattle.words.proofs.Lists.{four_all, sized_four}
use Rattle.words.proofs.Xor.{xor_twice}
use Rattle.bitslice.proofs.Boxes.{box_inverse}
use Rattle.bitslice.proofs.Linear.{linear_inverse}
use Rattle.serpent.specs.Block.{mix, round, unround, rounds, unrounds, encrypt_words, decrypt_words, encrypt_bytes, decrypt_bytes}

module _ (ks : List ℕ) (small : (i : ℕ) → get_or ks i 0 < 2 ^ 32) where
  mixed : (i : ℕ) (w : List ℕ) → FourWords w → FourWords (mix ks i w)
  unfolding mix
  mixed i w s =
      let below : (j : ℕ) → bit_xor (get_or w j 0) (get_or ks (4 * i + j) 0) < 2 ^ 32 = λ j. xor_lt 32 _ _ (s.small j) (small (4 * i + j)) in
      sized_four _ _ _ _ (xor_lt 32 _ _ (s.small 0) (small (4 * i))) (below 1) (below 2) (below 3)

  remixed : (i : ℕ) (w : List ℕ) → FourWords w → mix ks i (mix ks i w) ≡ w
  unfolding mix
  remixed i w s = simp xor_twice (four_all w s.len)

  mix_inverse : (i : ℕ) → Inverse FourWords FourWords (mix ks i) (mix ks i)
  mix_inverse i = record { there = mixed i; back = mixed i; undo = remixed i; redo = remixed i }

  round_inverse : (i : ℕ) → Inverse FourWords FourWords (round ks i) (unround ks i)
  unfolding round unround
  round_inverse i = then (then (mix_inverse i) (box_inverse i)) linear_inverse

  rounds_inverse : (n : ℕ) → Inverse FourWords FourWords (rounds ks n) (unrounds ks n)
  unfolding rounds unrounds
  rounds_inverse zero = id_inverse FourWords
  rounds_inverse (suc n) = then (rounds_inverse n) (round_inverse n)

  words_inverse : Inverse FourWords FourWords (encrypt_words ks) (decrypt_words ks)
  unfolding encrypt_words decrypt_words
  words_inverse = then (then (then (rounds_inverse 31) (mix_inverse 31)) (box_inverse 31)) (mix_inverse 32)

  pub block_inverse : Inverse Block Block (encrypt_bytes ks) (decrypt_bytes ks)
  unfolding encrypt_bytes decrypt_bytes
  block_inverse = then (then bytes_inverse words_inverse) (turned bytes_inverse)

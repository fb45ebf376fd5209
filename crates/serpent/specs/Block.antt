-- One block enciphered and deciphered under 33 round keys, as the paper has it.
use Rattle.std.specs.Prelude.{ℕ, zero, suc, ◌*◌, List}
use Rattle.words.specs.Sized.{four}
use Rattle.words.specs.Bytes.{words_of, bytes_of}
use Rattle.bitslice.specs.Boxes.{box_words, box_inv_words}
use Rattle.bitslice.specs.Linear.{linear_transform, linear_transform_inv}
use Rattle.state.specs.Words.{xor_words}

-- XOR with round key i
unfoldable pub mix : List ℕ → ℕ → List ℕ → List ℕ
mix ks i b = xor_words b (four ks (4 * i))

-- round i of 0 to 30, and its inverse steps in reverse order
unfoldable pub round : List ℕ → ℕ → List ℕ → List ℕ
round ks i b = linear_transform (box_words i (mix ks i b))

unfoldable pub unround : List ℕ → ℕ → List ℕ → List ℕ
unround ks i b = mix ks i (box_inv_words i (linear_transform_inv b))

-- rounds 0 to n - 1
unfoldable pub rounds : List ℕ → ℕ → List ℕ → List ℕ
rounds ks zero b = b
rounds ks (suc n) b = round ks n (rounds ks n b)

-- rounds n - 1 to 0 undone
unfoldable pub unrounds : List ℕ → ℕ → List ℕ → List ℕ
unrounds ks zero b = b
unrounds ks (suc n) b = unrounds ks n (unround ks n b)

-- the 32 rounds, the last with another key in place of the linear transform
unfoldable pub encrypt_words : List ℕ → List ℕ → List ℕ
encrypt_words ks b = mix ks 32 (box_words 31 (mix ks 31 (rounds ks 31 b)))

unfoldable pub decrypt_words : List ℕ → List ℕ → List ℕ
decrypt_words ks b = unrounds ks 31 (mix ks 31 (box_inv_words 31 (mix ks 32 b)))

-- the same on sixteen bytes: four little-endian words
unfoldable pub encrypt_bytes : List ℕ → List ℕ → List ℕ
encrypt_bytes ks b = bytes_of (encrypt_words ks (words_of b 4)) 16

unfoldable pub decrypt_bytes : List ℕ → List ℕ → List ℕ
decrypt_bytes ks b = bytes_of (decrypt_words ks (words_of b 4)) 16

-- One block under a key, over slices: the order of tests, and the output buffer.
use Rattle.std.specs.Prelude.{ℕ, not, List, [], ◌∷◌, eqb, ltb, length}
use Rattle.answers.specs.Answers.{◌when◌, first_number, left}
use Rattle.serpent.specs.Schedule.{schedule}
use Rattle.serpent.specs.Block.{encrypt_bytes, decrypt_bytes}
use Rattle.serpent.specs.Keys.{key_number}

-- the tests 1, 2, 5 on the lengths of key, block and output buffer
unfoldable pub block_number : ℕ → ℕ → ℕ → ℕ
block_number key block out = first_number (key_number key ∷ 2 when not (eqb block 16) ∷ 5 when ltb out 16 ∷ [])

-- every byte of the output buffer after a block is enciphered, or deciphered, under a key
abbrev pub encrypted_out : List ℕ → List ℕ → List ℕ → List ℕ
encrypted_out key block out = left (block_number (length key) (length block) (length out)) (encrypt_bytes (schedule key) block) out

abbrev pub decrypted_out : List ℕ → List ℕ → List ℕ → List ℕ
decrypted_out key block out = left (block_number (length key) (length block) (length out)) (decrypt_bytes (schedule key) block) out

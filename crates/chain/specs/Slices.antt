-- The chain over slices: the orders of tests, and the output buffer.
use Rattle.std.specs.Prelude.{ℕ, ◌/◌, ◌%◌, not, List, [], ◌∷◌, eqb, ltb, length}
use Rattle.answers.specs.Answers.{◌when◌, first_number, left}
use Rattle.serpent.specs.Schedule.{schedule}
use Rattle.serpent.specs.Block.{encrypt_bytes, decrypt_bytes}
use Rattle.serpent.specs.Keys.{key_number}
use Rattle.chain.specs.Chain.{encipher, decipher, blocks_of, join}

-- the most blocks of a chain
abbrev pub block_limit : ℕ
block_limit = 256

-- the cipher bytes of a text, and the text of cipher bytes, under 33 round keys
unfoldable pub enciphered : List ℕ → List ℕ → List ℕ → List ℕ
enciphered ks start text = join (encipher (encrypt_bytes ks) start (blocks_of text))

unfoldable pub deciphered : List ℕ → List ℕ → List ℕ → List ℕ
deciphered ks start cipher = join (decipher (decrypt_bytes ks) start (blocks_of cipher))

-- the tests 2, 5 of a chain under round keys, on the lengths of text and output buffer
unfoldable pub blocks_number : ℕ → ℕ → ℕ
blocks_number text out = first_number (2 when not (eqb (text % 16) 0) ∷ 5 when ltb out text ∷ [])

-- the tests 2, 3, 4 of a chain, on the lengths of text and start block
unfoldable pub lengths_number : ℕ → ℕ → ℕ
lengths_number text start = first_number (2 when not (eqb (text % 16) 0) ∷ 3 when not (eqb start 16) ∷ 4 when ltb block_limit (text / 16) ∷ [])

-- the tests 1, 2, 3, 4, 5 of a chain, on the lengths of key, text, start block and output buffer
unfoldable pub chain_number : ℕ → ℕ → ℕ → ℕ → ℕ
chain_number key text start out =
    first_number (key_number key ∷ 2 when not (eqb (text % 16) 0) ∷ 3 when not (eqb start 16) ∷ 4 when ltb block_limit (text / 16) ∷ 5 when ltb out text ∷ [])

-- every byte of the output buffer after a text is enciphered, or cipher bytes are deciphered
abbrev pub encrypted_chain : List ℕ → List ℕ → List ℕ → List ℕ → List ℕ
encrypted_chain key text start out = left (chain_number (length key) (length text) (length start) (length out)) (enciphered (schedule key) start text) out

abbrev pub decrypted_chain : List ℕ → List ℕ → List ℕ → List ℕ → List ℕ
decrypted_chain key cipher start out = left (chain_number (length key) (length cipher) (length start) (length out)) (deciphered (schedule key) start cipher) out

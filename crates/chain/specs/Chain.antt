-- The CBC chain of SP 800-38A on sixteen-byte blocks, for any block function E and its inverse D.
use Rattle.std.specs.Prelude.{ℕ, zero, suc, ◌/◌, List, [], ◌∷◌, ◌++◌, length, take, drop}
use Rattle.std.specs.Int.Bits.{bit_xor}
use Rattle.words.specs.Sized.{Block}

-- the XOR of two byte strings, place by place, as far as the shorter goes
unfoldable pub xor : List ℕ → List ℕ → List ℕ
xor [] b = []
xor (x ∷ a) [] = []
xor (x ∷ a) (y ∷ b) = bit_xor x y ∷ xor a b

-- cipher block = E (text block XOR previous cipher block), the start block before the first
unfoldable pub encipher : (List ℕ → List ℕ) → List ℕ → List (List ℕ) → List (List ℕ)
encipher E start [] = []
encipher E start (text ∷ texts) = E (xor text start) ∷ encipher E (E (xor text start)) texts

-- text block = D (cipher block) XOR previous cipher block
unfoldable pub decipher : (List ℕ → List ℕ) → List ℕ → List (List ℕ) → List (List ℕ)
decipher D start [] = []
decipher D start (cipher ∷ ciphers) = xor (D cipher) start ∷ decipher D cipher ciphers

-- the block that the next one is chained to: the last, or the start block where there is none
unfoldable pub last_or : List ℕ → List (List ℕ) → List ℕ
last_or start [] = start
last_or start (cipher ∷ ciphers) = last_or cipher ciphers

-- the first n blocks of a byte string, and all its whole blocks
unfoldable pub blocks : ℕ → List ℕ → List (List ℕ)
blocks zero bytes = []
blocks (suc n) bytes = take 16 bytes ∷ blocks n (drop 16 bytes)

abbrev pub blocks_of : List ℕ → List (List ℕ)
blocks_of bytes = blocks (length bytes / 16) bytes

-- the byte string of blocks
unfoldable pub join : List (List ℕ) → List ℕ
join [] = []
join (block ∷ rest) = block ++ join rest

-- each is a block
unfoldable pub Blocks : List (List ℕ) → Type 0
Blocks [] = Unit {0}
Blocks (block ∷ rest) = Block block × Blocks rest

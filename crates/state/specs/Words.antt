-- Four words combined.
use Rattle.std.specs.Prelude.{ℕ, List, [], ◌∷◌, get_or}
use Rattle.std.specs.Int.Bits.{bit_xor}

-- the XOR of four words and four words
abbrev pub xor_words : List ℕ → List ℕ → List ℕ
xor_words a b =
    bit_xor (get_or a 0 0) (get_or b 0 0) ∷ bit_xor (get_or a 1 0) (get_or b 1 0) ∷ bit_xor (get_or a 2 0) (get_or b 2 0)
    ∷ bit_xor (get_or a 3 0) (get_or b 3 0) ∷ []

-- Serpent's boxes on four words, as the paper has them.
use Rattle.std.specs.Prelude.{true, false, List, [], ◌∷◌, map, ℕ, suc, ◌%◌, eqb, get_or}
use Rattle.words.specs.Sized.{list_of}
use Rattle.words.specs.Bits.{bit, from_bits}

-- the nibble at position j: bit j of each of the four words, word 0 lowest
unfoldable pub nibble_at : List ℕ → ℕ → ℕ
nibble_at words j = from_bits 4 (λ i. bit j (get_or words i 0))

-- a box on four words: at each position j of 0..31 the table's nibble is put for the nibble there
unfoldable pub box_on : List ℕ → List ℕ → List ℕ
box_on table words = list_of (λ i. from_bits 32 (λ j. bit i (get_or table (nibble_at words j) 0))) 4

-- the paper's tables of the boxes 0 to 7
unfoldable pub boxes : List (List ℕ)
boxes =
    (3 ∷ 8 ∷ 15 ∷ 1 ∷ 10 ∷ 6 ∷ 5 ∷ 11 ∷ 14 ∷ 13 ∷ 4 ∷ 2 ∷ 7 ∷ 0 ∷ 9 ∷ 12 ∷ [])
    ∷ (15 ∷ 12 ∷ 2 ∷ 7 ∷ 9 ∷ 0 ∷ 5 ∷ 10 ∷ 1 ∷ 11 ∷ 14 ∷ 8 ∷ 6 ∷ 13 ∷ 3 ∷ 4 ∷ [])
    ∷ (8 ∷ 6 ∷ 7 ∷ 9 ∷ 3 ∷ 12 ∷ 10 ∷ 15 ∷ 13 ∷ 1 ∷ 14 ∷ 4 ∷ 0 ∷ 11 ∷ 5 ∷ 2 ∷ [])
    ∷ (0 ∷ 15 ∷ 11 ∷ 8 ∷ 12 ∷ 9 ∷ 6 ∷ 3 ∷ 13 ∷ 1 ∷ 2 ∷ 4 ∷ 10 ∷ 7 ∷ 5 ∷ 14 ∷ [])
    ∷ (1 ∷ 15 ∷ 8 ∷ 3 ∷ 12 ∷ 0 ∷ 11 ∷ 6 ∷ 2 ∷ 5 ∷ 4 ∷ 10 ∷ 9 ∷ 14 ∷ 7 ∷ 13 ∷ [])
    ∷ (15 ∷ 5 ∷ 2 ∷ 11 ∷ 4 ∷ 10 ∷ 9 ∷ 12 ∷ 0 ∷ 3 ∷ 14 ∷ 8 ∷ 13 ∷ 6 ∷ 7 ∷ 1 ∷ [])
    ∷ (7 ∷ 2 ∷ 12 ∷ 5 ∷ 8 ∷ 4 ∷ 6 ∷ 11 ∷ 14 ∷ 9 ∷ 1 ∷ 15 ∷ 13 ∷ 3 ∷ 10 ∷ 0 ∷ [])
    ∷ (1 ∷ 13 ∷ 15 ∷ 0 ∷ 14 ∷ 8 ∷ 2 ∷ 11 ∷ 7 ∷ 4 ∷ 12 ∷ 10 ∷ 9 ∷ 3 ∷ 5 ∷ 6 ∷ [])
    ∷ []

unfoldable pub box : ℕ → List ℕ
box k = get_or boxes k []

-- the first place of n in a table
unfoldable pub place_of : ℕ → List ℕ → ℕ
place_of n [] = 0
place_of n (x ∷ xs) = elim (eqb n x) [ true ↦ 0 | false ↦ suc (place_of n xs) ]

unfoldable pub nibbles : List ℕ
nibbles = 0 ∷ 1 ∷ 2 ∷ 3 ∷ 4 ∷ 5 ∷ 6 ∷ 7 ∷ 8 ∷ 9 ∷ 10 ∷ 11 ∷ 12 ∷ 13 ∷ 14 ∷ 15 ∷ []

-- the table that takes each nibble back to its place
unfoldable pub inverse : List ℕ → List ℕ
inverse table = map (λ n. place_of n table) nibbles

-- box i, reduced by 8, on four words, and its inverse
abbrev pub box_words : ℕ → List ℕ → List ℕ
box_words i words = box_on (box (i % 8)) words

abbrev pub box_inv_words : ℕ → List ℕ → List ℕ
box_inv_words i words = box_on (inverse (box (i % 8))) words

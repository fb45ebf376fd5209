-- How the faster forms count the rounds. They are shown equal to what the promises name.
use Rattle.std.specs.Prelude.{List, ℕ, zero, suc, ◌+◌}
use Rattle.bitslice.specs.Boxes.{box_words, box_inv_words}
use Rattle.bitslice.specs.Linear.{linear_transform_inv}
use Rattle.state.specs.Words.{xor_words}
use Rattle.serpent.specs.Block.{mix, round, unround}

-- the last round, and what undoes it
unfoldable pub last : List ℕ → List ℕ → List ℕ
last ks b = mix ks 32 (box_words 31 (mix ks 31 b))

unfoldable pub unlast : List ℕ → List ℕ → List ℕ
unlast ks b = mix ks 31 (box_inv_words 31 (mix ks 32 b))

-- a round with box n and round key k undone, and the last with its two round keys
abbrev pub unmixed : ℕ → List ℕ → List ℕ → List ℕ
unmixed n k b = xor_words (box_inv_words n (linear_transform_inv b)) k

abbrev pub unmixed_last : List ℕ → List ℕ → List ℕ → List ℕ
unmixed_last k after b = xor_words (box_inv_words 31 (xor_words b after)) k

-- rounds i to i + n - 1
unfoldable pub rounds_from : List ℕ → ℕ → ℕ → List ℕ → List ℕ
rounds_from ks i zero b = b
rounds_from ks i (suc n) b = round ks (i + n) (rounds_from ks i n b)

-- rounds i + n - 1 to i undone
unfoldable pub unrounds_from : List ℕ → ℕ → ℕ → List ℕ → List ℕ
unrounds_from ks i zero b = b
unrounds_from ks i (suc n) b = unrounds_from ks i n (unround ks (i + n) b)

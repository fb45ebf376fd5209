-- The parts of the cipher over slices: the order of tests, and the output buffer.
use Rattle.std.specs.Prelude.{ℕ, not, List, [], ◌∷◌, eqb, length}
use Rattle.answers.specs.Answers.{◌when◌, first_number, left, room_number}
use Rattle.words.specs.Bytes.{words_of, bytes_of}
use Rattle.bitslice.specs.Boxes.{box_words, box_inv_words}
use Rattle.bitslice.specs.Chosen.{box_number}
use Rattle.bitslice.specs.Linear.{linear_transform, linear_transform_inv}
use Rattle.serpent.specs.Schedule.{padded, schedule}
use Rattle.serpent.specs.Keys.{key_number}

-- ---- what a key makes: the tests 1, 5, on the lengths of key and output buffer and of what is written
unfoldable pub setup_number : ℕ → ℕ → ℕ → ℕ
setup_number key out size = first_number (key_number key ∷ room_number out size ∷ [])

abbrev pub padded_out : List ℕ → List ℕ → List ℕ
padded_out key out = left (setup_number (length key) (length out) 32) (padded key) out

abbrev pub round_keys_out : List ℕ → List ℕ → List ℕ
round_keys_out key out = left (setup_number (length key) (length out) 528) (bytes_of (schedule key) 528) out

-- ---- a function of four words, on sixteen bytes, the lowest of a word first
abbrev pub on_words : (List ℕ → List ℕ) → List ℕ → List ℕ
on_words f bytes = bytes_of (f (words_of bytes 4)) 16

-- the tests 2, 5, on the lengths of words and output buffer
unfoldable pub words_number : ℕ → ℕ → ℕ
words_number words out = first_number (2 when not (eqb words 16) ∷ room_number out 16 ∷ [])

abbrev pub linear_out : List ℕ → List ℕ → List ℕ
linear_out words out = left (words_number (length words) (length out)) (on_words linear_transform words) out

abbrev pub linear_inv_out : List ℕ → List ℕ → List ℕ
linear_inv_out words out = left (words_number (length words) (length out)) (on_words linear_transform_inv words) out

-- the tests 2, 8, 5
unfoldable pub boxed_number : ℕ → ℕ → ℕ → ℕ
boxed_number index words out = first_number (2 when not (eqb words 16) ∷ box_number index ∷ room_number out 16 ∷ [])

abbrev pub boxed_out : ℕ → List ℕ → List ℕ → List ℕ
boxed_out index words out = left (boxed_number index (length words) (length out)) (on_words (box_words index) words) out

abbrev pub boxed_inv_out : ℕ → List ℕ → List ℕ → List ℕ
boxed_inv_out index words out = left (boxed_number index (length words) (length out)) (on_words (box_inv_words index) words) out

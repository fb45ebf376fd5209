-- What reading a key answers.
use Rattle.std.specs.Prelude.{ℕ, ◌*◌, ◌/◌, ◌%◌, cond, eqb, leb, List, length, Result, Ok, Err}
use Rattle.hexkey.specs.Key.{Spelt, digits, wrong}
use Rattle.hexkey.specs.declared.Misspelt.{Misspelt}
use Rattle.hexkey.specs.declared.Misspelt.TheVariants.{Wrong, Odd, Long}

-- of a text with count digits, where place is that of what is wrong, or 0: how many bytes its key has, or why a buffer gets
-- none; what is wrong comes first, then an odd number of digits, then too little room
abbrev pub judged : ℕ → ℕ → ℕ → Result ℕ Misspelt
judged place count room =
    cond (eqb place 0)
    (cond (eqb (count % 2) 0) (cond (leb (count / 2) room) (Ok (count / 2)) (Err (Long count))) (Err (Odd count)))
    (Err (Wrong place count))

-- the same of a text and the length of a buffer
abbrev pub answer : List ℕ → ℕ → Result ℕ Misspelt
answer text room = judged (wrong text) (length (digits text)) room

-- how a text is spelt, as each answer tells it
abbrev pub told : Result ℕ Misspelt → Spelt
told (Ok size) = record { digits = 2 * size; wrong = 0 }
told (Err (Wrong place count)) = record { digits = count; wrong = place }
told (Err (Odd count)) = record { digits = count; wrong = 0 }
told (Err (Long count)) = record { digits = count; wrong = 0 }

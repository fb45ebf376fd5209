-- The number of an answer: 0 for what is done, and a number for each reason to refuse.
use Rattle.std.specs.Prelude.{ℕ, Result, Ok, Err}
use Rattle.answers.specs.declared.Refusal.{Refusal}
use Rattle.answers.specs.declared.Refusal.TheVariants.{KeyLength, TextLength, StartLength, TooMany, OutShort, FrameLength, Version, NoBox, Beyond, NotReadable, NoEvent}

abbrev pub code : Refusal → ℕ
code KeyLength = 1
code TextLength = 2
code StartLength = 3
code TooMany = 4
code OutShort = 5
code FrameLength = 6
code Version = 7
code NoBox = 8
code Beyond = 9
code NotReadable = 10
code NoEvent = 11

abbrev pub number : {A : Type 0} → Result A Refusal → ℕ
number (Ok value) = 0
number (Err refusal) = code refusal

-- A box chosen by its number: the test that the number is one of a box.
use Rattle.std.specs.Prelude.{ℕ, ◌%◌, ltb}
use Rattle.answers.specs.Answers.{◌when◌}

-- 8 where the box number, after reduction by 8, is above 7
abbrev pub box_number : ℕ → ℕ
box_number i = 8 when ltb 7 (i % 8)

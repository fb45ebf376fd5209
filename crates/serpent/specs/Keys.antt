-- Key setup on any bytes: the number, and the record.
use Rattle.std.specs.Prelude.{ℕ, ◌||◌, List, [], ◌∷◌, ltb, length, replicate}
use Rattle.answers.specs.Answers.{◌when◌, on_done, first_number}
use Rattle.serpent.specs.declared.Serpent.{Serpent}
use Rattle.serpent.specs.Schedule.{schedule}

-- the bytes of the shortest and of the longest key
abbrev pub least_key : ℕ
least_key = 16

abbrev pub greatest_key : ℕ
greatest_key = 32

-- the test of a key of n bytes: 1 where it is shorter or longer
unfoldable pub key_number : ℕ → ℕ
key_number n = first_number (1 when (ltb n least_key || ltb greatest_key n) ∷ [])

-- what key setup answers, as a host in C is told
pub record Keyed : Type 0 where
  pub number : ℕ
  pub cipher : Serpent

-- what key setup answers: the round keys with number 0, and an all-zero record with any other
abbrev pub keyed : List ℕ → Keyed
keyed key = record {
  number = key_number (length key);
  cipher = record { round_keys = on_done (key_number (length key)) (schedule key) (replicate 132 0) };
}

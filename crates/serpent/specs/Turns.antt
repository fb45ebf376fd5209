-- How far the round keys are made. No promise names it.
use Rattle.std.specs.Prelude.{◌≡◌, List, ℕ, ◌*◌, length, take}
use Rattle.serpent.specs.Schedule.{round_keys}

-- of 33 round keys in their places, those below i stand
pub record KeysUpTo (words k : List ℕ) (i : ℕ) : Type 0 where
  pub size : length k ≡ 132
  pub done : take (4 * i) k ≡ round_keys words i

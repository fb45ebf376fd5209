-- How far a buffer is filled from the front, a block a turn. No promise names it.
use Rattle.std.specs.Prelude.{◌≡◌, List, ℕ, ◌*◌, length, take, drop}

-- out is was with its first i blocks written: they are done
pub record Filled (was out : List ℕ) (i : ℕ) (done : List ℕ) : Type 0 where
  pub written : take (i * 16) out ≡ done
  pub kept : drop (i * 16) out ≡ drop (i * 16) was
  pub size : length out ≡ length was

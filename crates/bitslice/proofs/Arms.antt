-- A number reduced by 8 is one of 0 to 7, so number 8 is never given.
-- Assumes nothing.
use mathlib.Core.Path.{◌≡◌}
use Prim.Native.Nat.{ℕ, ◌%◌}
use native.Mathlib.Omega.{arith}
use borrow.Author.Tests.{le-ltb}
use Rattle.answers.specs.Answers.{◌when◌}
use Rattle.bitslice.specs.Chosen.{box_number}

-- a box is always there
pub always : (i : ℕ) → box_number i ≡ 0
unfolding ◌when◌
always i = simp (le-ltb 7 (i % 8) (omega arith))

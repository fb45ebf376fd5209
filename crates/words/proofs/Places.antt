-- A block at a place that has its sixteen bytes.
-- Assumes nothing.
use mathlib.Core.Path.{◌≡◌, sym, ◌∙◌}
use mathlib.Core.List.{List}
use Prim.Native.Nat.{ℕ, ◌+◌, ◌≤◌}
use native.Mathlib.Omega.{arith}
use borrow.Author.Tests.{le-leb}
use lib.ListN.{length, take, drop}
use lib.Seq.{paste, take_all}
use Rattle.words.specs.Blocks.{block_at, put_at}

module _ (s : List ℕ) (at : ℕ) where
  pub block_there : at + 16 ≤ length s → take 16 (drop at s) ≡ block_at s at
  unfolding block_at
  block_there h = simp (le-leb _ _ h)

  pub put_there : (block : List ℕ) → at + 16 ≤ length s → paste s at block 16 ≡ put_at s at block
  unfolding put_at
  put_there block h = simp (le-leb _ _ h)

-- sixteen bytes are the block at their place 0
pub block_whole : (s : List ℕ) → length s ≡ 16 → block_at s 0 ≡ s
block_whole s e = sym (block_there s 0 (omega arith)) ∙ take_all 16 s (omega arith)

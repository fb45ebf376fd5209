-- The sixteen bytes from a place of a byte string, read and written.
use Rattle.std.specs.Prelude.{ℕ, ◌+◌, cond, List, leb, length, take, drop, replicate}
use Rattle.std.proofs.Math.Seq.{paste}

-- the block at a place, and zeros where the string has no sixteen bytes there
unfoldable pub block_at : List ℕ → ℕ → List ℕ
block_at s at = cond (leb (at + 16) (length s)) (take 16 (drop at s)) (replicate 16 0)

-- the string with a block put over the bytes from a place, and the string as it was where it has no sixteen bytes there
unfoldable pub put_at : List ℕ → ℕ → List ℕ → List ℕ
put_at s at block = cond (leb (at + 16) (length s)) (paste s at block 16) s

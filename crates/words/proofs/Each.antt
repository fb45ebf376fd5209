-- A test at each number below n, in one computation.
-- Assumes nothing.
use mathlib.Core.Bool.{Bool, true, ◌&&◌}
use Prim.Native.Nat.{ℕ, zero, suc, ◌<◌}
use native.Mathlib.Nat.{le_of_suc-le-suc}
use native.Mathlib.Omega.{arith}
use lib.Dec.{T}
use mir.Facts.{and_yes}

abbrev pub each : (ℕ → Bool) → ℕ → Bool
each f zero = true
each f (suc n) = f 0 && each (λ k. f (suc k)) n

pub at : (f : ℕ → Bool) (n : ℕ) → T (each f n) → (k : ℕ) → k < n → T (f k)
at f zero t k l = absurd (omega arith)
at f (suc n) t zero l = (and_yes (f 0) _ t).0
at f (suc n) t (suc k) l = at (λ i. f (suc i)) n (and_yes (f 0) _ t).1 k (le_of_suc-le-suc l)

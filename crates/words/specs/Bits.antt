-- Numbers by their bits.
use Rattle.std.specs.Prelude.{ℕ, zero, suc, ◌+◌, ◌*◌, ◌/◌, ◌%◌, ◌^◌}

-- bit j of x
unfoldable pub bit : ℕ → ℕ → ℕ
bit j x = x / 2 ^ j % 2

-- the number of n bits whose bit j is f j
unfoldable pub from_bits : ℕ → (ℕ → ℕ) → ℕ
from_bits zero f = 0
from_bits (suc n) f = from_bits n (λ j. f (suc j)) * 2 + f 0

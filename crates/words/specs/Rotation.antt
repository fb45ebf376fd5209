-- Rotations and shifts of a word of 32 bits.
use Rattle.std.specs.Prelude.{ℕ, ◌+◌, ◌-◌, ◌*◌, ◌/◌, ◌%◌, ◌^◌}

-- x rotated left by n places, n at most 32: the low 32 - n bits go up, and the high n bits come in below
unfoldable pub rotl : ℕ → ℕ → ℕ
rotl n x = x % 2 ^ (32 - n) * 2 ^ n + x / 2 ^ (32 - n)

-- x rotated right by n places: left by the rest of the 32
abbrev pub rotr : ℕ → ℕ → ℕ
rotr n x = rotl (32 - n) x

-- x << n in 32 bits, which drops high bits
unfoldable pub shl : ℕ → ℕ → ℕ
shl n x = x * 2 ^ n % 2 ^ 32

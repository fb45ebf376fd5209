-- What a byte of a text stands for: a digit's value, white space, or neither.
use Rattle.std.specs.Prelude.{ℕ, cond, eqb, ltb}
use Rattle.hexkey.specs.Key.{value}
use Rattle.hexkey.specs.declared.symbol.Symbol.{Symbol}
use Rattle.hexkey.specs.declared.symbol.Symbol.TheVariants.{Digit, Blank, Other}

-- by the value that Key gives a byte
abbrev pub symbol_of : ℕ → Symbol
symbol_of v = cond (ltb v 16) (Digit v) (cond (eqb v 16) Blank Other)

-- of a byte
unfoldable pub symbol : ℕ → Symbol
symbol b = symbol_of (value b)

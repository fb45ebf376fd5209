-- A key spelt in hexadecimal digits: what each byte of the text stands for, and the bytes that the digits spell.
use Rattle.std.specs.Prelude.{ℕ, suc, ◌+◌, ◌-◌, ◌*◌, ◌/◌, ◌%◌, Bool, cond, ◌&&◌, List, [], ◌∷◌, eqb, leb, ltb, length, get_or}
use Rattle.answers.specs.Answers.{front}
use Rattle.words.specs.Sized.{list_of}

-- ---- a byte
abbrev pub within : ℕ → ℕ → ℕ → Bool
within low high b = leb low b && leb b high

-- what a byte stands for: a digit, 0 to 9, A to F or a to f, for its value; white space, 9 to 13 and the blank, for 16; any other byte for 17
unfoldable pub value : ℕ → ℕ
value b =
    cond (within 48 57 b) (b - 48)
    (cond (within 65 70 b) (b - 55)
    (cond (within 97 102 b) (b - 87)
    (cond (within 9 13 b) 16
    (cond (eqb b 32) 16 17))))

-- ---- a text
-- the values of its digits, in order
unfoldable pub digits : List ℕ → List ℕ
digits [] = []
digits (b ∷ text) = cond (ltb (value b) 16) (value b ∷ digits text) (digits text)

-- the place of the first byte that is neither digit nor white space, where the text's first byte has place n; 0 where there is none
unfoldable pub wrong_from : ℕ → List ℕ → ℕ
wrong_from n [] = 0
wrong_from n (b ∷ text) = cond (eqb (value b) 17) n (wrong_from (suc n) text)

-- the same, counted from 1
abbrev pub wrong : List ℕ → ℕ
wrong text = wrong_from 1 text

-- ---- a key
-- byte j of two digits, the high one first
abbrev pub byte_of : List ℕ → ℕ → ℕ
byte_of values j = 16 * get_or values (2 * j) 0 + get_or values (2 * j + 1) 0

-- the bytes that the digits of a text spell; of an odd number of digits the last spells none
unfoldable pub key_bytes : List ℕ → List ℕ
key_bytes text = list_of (byte_of (digits text)) (length (digits text) / 2)

-- how a text is spelt: the number of its digits, and the place of what is wrong
pub record Spelt : Type 0 where
  pub digits : ℕ
  pub wrong : ℕ

unfoldable pub spelt : List ℕ → Spelt
spelt text = record { digits = length (digits text); wrong = wrong text }

-- what is left in a buffer: the key in front where nothing is wrong, the digits come in pairs and there is room; else every byte as it was
unfoldable pub key_out : List ℕ → List ℕ → List ℕ
key_out text out =
    cond (eqb (wrong text) 0 && eqb (length (digits text) % 2) 0 && leb (length (key_bytes text)) (length out)) (front (key_bytes text) out) out

-- Words as bytes: the lowest byte first in the cipher, the highest first in frames and events.
use Rattle.std.specs.Prelude.{ℕ, ◌+◌, ◌*◌, ◌/◌, ◌%◌, ◌^◌, List, get_or}
use Rattle.words.specs.Sized.{list_of}

-- the word of four bytes, the lowest first
unfoldable pub word_of : ℕ → ℕ → ℕ → ℕ → ℕ
word_of a b c d = a + b * 2 ^ 8 + c * 2 ^ 16 + d * 2 ^ 24

-- the word at place p of a byte string
abbrev pub word_at : List ℕ → ℕ → ℕ
word_at b p = word_of (get_or b p 0) (get_or b (p + 1) 0) (get_or b (p + 2) 0) (get_or b (p + 3) 0)

-- the first n words of a byte string
unfoldable pub words_of : List ℕ → ℕ → List ℕ
words_of b n = list_of (λ i. word_at b (4 * i)) n

-- byte k of a word
abbrev pub le_byte : ℕ → ℕ → ℕ
le_byte x k = x / 2 ^ (8 * k) % 2 ^ 8

-- byte k of a word string: byte k % 4 of word k / 4
unfoldable pub byte_at : List ℕ → ℕ → ℕ
byte_at w k = le_byte (get_or w (k / 4) 0) (k % 4)

-- the first n bytes of a word string
unfoldable pub bytes_of : List ℕ → ℕ → List ℕ
bytes_of w n = list_of (byte_at w) n

-- the word at place p of a byte string, its highest byte first
abbrev pub be_word_at : List ℕ → ℕ → ℕ
be_word_at b p = word_of (get_or b (p + 3) 0) (get_or b (p + 2) 0) (get_or b (p + 1) 0) (get_or b p 0)

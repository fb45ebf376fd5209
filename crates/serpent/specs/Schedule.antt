-- The padded key, the prekeys and the round keys, as the paper has them.
use Rattle.std.specs.Prelude.{ℕ, zero, suc, ◌+◌, ◌-◌, ◌*◌, ◌%◌, List, [], ◌∷◌, ◌++◌, get_or, replicate, take}
use Rattle.std.specs.Int.Bits.{bit_xor}
use Rattle.words.specs.Sized.{four}
use Rattle.words.specs.Rotation.{rotl}
use Rattle.words.specs.Bytes.{words_of}
use Rattle.bitslice.specs.Boxes.{box_words}

-- the key bytes, the mark 0x01 and zeros, cut at 32 bytes: a key of 32 bytes has no mark
unfoldable pub padded : List ℕ → List ℕ
padded key = take 32 (key ++ (0x01 ∷ replicate 32 0))

abbrev pub phi : ℕ
phi = 0x9e37_79b9

-- w(i), of the list that holds w(-8) to w(i - 1) and so has w(i - 8) at place i
abbrev pub prekey : List ℕ → ℕ → ℕ
prekey w i =
    rotl 11
    (bit_xor (bit_xor (bit_xor (bit_xor (bit_xor (get_or w i 0) (get_or w (i + 3) 0)) (get_or w (i + 5) 0)) (get_or w (i + 7) 0)) phi) i)

-- w(-8) to w(n - 1), from w(-8) to w(-1)
unfoldable pub prekeys : List ℕ → ℕ → List ℕ
prekeys w zero = w
prekeys w (suc n) = prekeys w n ++ (prekey (prekeys w n) n ∷ [])

-- the number of the box that makes round key i
abbrev pub box_of_key : ℕ → ℕ
box_of_key i = (35 - i) % 32

-- round key i of the prekeys: its box, reduced by 8, on w(4i) to w(4i + 3)
abbrev pub round_key : List ℕ → ℕ → List ℕ
round_key w i = box_words (box_of_key i) (four w (4 * i + 8))

-- round keys 0 to n - 1, one after the other
unfoldable pub round_keys : List ℕ → ℕ → List ℕ
round_keys w zero = []
round_keys w (suc n) = round_keys w n ++ round_key w n

-- the 33 round keys of a key
unfoldable pub schedule : List ℕ → List ℕ
schedule key = round_keys (prekeys (words_of (padded key) 8) 132) 33

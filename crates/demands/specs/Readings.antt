-- The readings to check by hand, as rows of one table: what the definitions give, and what was read off.
use Rattle.std.specs.Prelude.{◌≡◌, List, [], ◌∷◌, ◌++◌, map, ℕ, ◌%◌, pos, negsuc, get_or, replicate}
use Rattle.words.specs.Bytes.{words_of}
use Rattle.bitslice.specs.Boxes.{box_words}
use Rattle.bitslice.specs.Linear.{linear_transform}
use Rattle.serpent.specs.Schedule.{padded, prekeys, box_of_key}
use Rattle.event.specs.declared.Class.TheVariants.{GridFault}
use Rattle.event.specs.Read.{reading}
use Rattle.frame.specs.Frame.{block_count, frame_number}

-- a row: the reading's number, what the definitions give, and what was read off
pub data Row : Type 1 where
  row : {A : Type 0} → ℕ → A → A → Row

abbrev zeros : ℕ → List ℕ
zeros n = replicate n 0

-- w(0), at place 8 of the list that begins with w(-8)
abbrev first_prekey : List ℕ → ℕ
first_prekey key = get_or (prekeys (words_of (padded key) 8) 1) 8 0

-- a frame of a length field, version 1 and so many zeros; the number of its opening, and its blocks
abbrev frame : List ℕ → ℕ → List ℕ
frame field n = field ++ (1 ∷ zeros n)

abbrev opening : List ℕ → List ℕ
opening f = frame_number f ∷ block_count f ∷ []

unfoldable pub table : List Row
table =
    row 1 (padded (zeros 16)) (zeros 16 ++ (1 ∷ zeros 15))
    ∷ row 2 (padded (zeros 32)) (zeros 32)
    ∷ row 2 (first_prekey (zeros 32)) 0xbbcdccf1
    ∷ row 3 (padded (zeros 31)) (padded (zeros 31 ++ (0x01 ∷ [])))
    ∷ row 4 (map (λ i. box_of_key i % 8) (0 ∷ 32 ∷ 3 ∷ 4 ∷ [])) (3 ∷ 3 ∷ 0 ∷ 7 ∷ [])
    ∷ row 5 (box_words 0 (zeros 4)) (0xffffffff ∷ 0xffffffff ∷ 0 ∷ 0 ∷ [])
    ∷ row 6 (box_words 3 (zeros 4)) (zeros 4)
    ∷ row 7 (linear_transform (1 ∷ zeros 3)) (0x100c0000 ∷ 0x00004000 ∷ 0x00002800 ∷ 0x00800000 ∷ [])
    ∷ row 8 (linear_transform (0x00040000 ∷ zeros 3)) (0x00000030 ∷ 0x00000001 ∷ 0x20000000 ∷ 0x00000000 ∷ [])
    ∷ row 9 (opening (frame (0x00 ∷ 0x00 ∷ 0x00 ∷ 0x11 ∷ []) 16)) (0 ∷ 0 ∷ [])
    ∷ row 9 (opening (frame (0x00 ∷ 0x00 ∷ 0x10 ∷ 0x11 ∷ []) 4112)) (0 ∷ 256 ∷ [])
    ∷ row 9 (frame_number (frame (0x00 ∷ 0x00 ∷ 0x10 ∷ 0x21 ∷ []) 4128)) 4
    ∷ row 9 (frame_number (frame (0x00 ∷ 0x00 ∷ 0x00 ∷ 0x12 ∷ []) 17)) 2
    ∷ row 10
    (reading (0x00 ∷ 0x00 ∷ 0x0e ∷ 0x10 ∷ 0x04 ∷ 0x20 ∷ 0x00 ∷ 0x02 ∷ 0xff ∷ 0xff ∷ 0xff ∷ 0xff ∷ 0x00 ∷ 0x00 ∷ 0x00 ∷ 0x07 ∷ []))
    (record {
      number = 0;
      event = record {
        wall = record { 0 = pos 3600 };
        utc = record { 0 = pos 0 };
        offset = pos 4;
        kind = 0x20;
        class = GridFault;
        inverter = 2;
        value = negsuc 0;
        sequence = 7;
      };
    })
    ∷ []

-- the claim: in each row the two are equal
unfoldable pub Hold : List Row → Type 0
Hold [] = Unit {0}
Hold (row n given read ∷ rows) = (given ≡ read) × Hold rows

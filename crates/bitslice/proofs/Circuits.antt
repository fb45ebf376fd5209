-- A circuit of bit operations on four words does at each position what it does on the sixteen nibbles. So it is run on truth tables:
-- numbers of sixteen bits, of which bit n is the value at the nibble n.
-- Assumes nothing.
use mathlib.Core.Path.{◌≡◌, refl, sym, ap, ap₂, ◌∙◌, fun_ext}
use mathlib.Core.List.{List, [], ◌∷◌, map}
use mathlib.Core.Bool.{true}
use Prim.Native.Nat.{ℕ, ◌-◌, ◌^◌, ◌<◌}
use native.Mathlib.Nat.{mod-eq_of_lt}
use native.Mathlib.Omega.{arith}
use borrow.Author.Tests.{ltb-true}
use lib.Bits.{bit_and, bit_or, bit_xor, xor_add_and, and_mask}
use lib.Dec.{lit<, ltb}
use lib.ListN.{get_or}
use mir.Syntax.{w32}
use mir.Val.{Fits}
use Rattle.words.specs.Sized.{list_of}
use Rattle.words.specs.Bits.{bit, from_bits}
use Rattle.words.proofs.Positions.{bit_lt, from_bits_lt, bit-from_bits, from_bits-bit, pick, and_pick, or_pick, xor_pick}
use Rattle.bitslice.specs.Boxes.{nibble_at, box_on, box, boxes, nibbles, inverse, place_of}

-- the word whose bit j is the truth table's value at the nibble at j
abbrev look : List ℕ → ℕ → ℕ
look words = pick 32 (nibble_at words)

-- bits 0 to 3 of a table's nibbles, as truth tables
unfoldable pub columns : List ℕ → List ℕ
unfolding bit from_bits list_of box boxes nibbles inverse place_of
columns table = list_of (λ i. from_bits 16 (λ n. bit i (get_or table n 0))) 4

pub nibble_lt : (words : List ℕ) (j : ℕ) → nibble_at words j < 16
unfolding nibble_at
nibble_lt words j = from_bits_lt 4 _ (λ i. bit_lt j (get_or words i 0))

not_xor : (k a : ℕ) → a < 2 ^ k → (2 ^ k - 1) - a ≡ bit_xor a (2 ^ k - 1)
not_xor k a h = omega (arith, xor_add_and a (2 ^ k - 1), and_mask a k, mod-eq_of_lt h)

look_ones : (words : List ℕ) → look words 65535 ≡ 4294967295
unfolding pick from_bits
look_ones words = ap (from_bits 32) (fun_ext (λ j. bit-from_bits 16 (λ n. 1) (λ n. lit< tt) (nibble_at words j) (nibble_lt words j)))

look_not : (words : List ℕ) (t : ℕ) → 4294967295 - look words t ≡ look words (bit_xor t 65535)
unfolding pick
look_not words t =
    not_xor 32 (look words t) (from_bits_lt 32 _ (λ j. bit_lt (nibble_at words j) t))
    ∙ ap (bit_xor (look words t)) (sym (look_ones words)) ∙ xor_pick 32 (nibble_at words) t 65535

-- a word is the look-up of the column of the nibbles themselves
look_word : (words : List ℕ) (i : ℕ) → i < 4 → get_or words i 0 < 2 ^ 32 → get_or words i 0 ≡ look words (from_bits 16 (λ n. bit i n))
unfolding pick nibble_at
look_word words i l h =
    sym (ap (from_bits 32) (fun_ext (λ j.
    bit-from_bits 16 (λ n. bit i n) (λ n. bit_lt i n) (nibble_at words j) (nibble_lt words j)
    ∙ bit-from_bits 4 (λ k. bit j (get_or words k 0)) (λ k. bit_lt j (get_or words k 0)) i l))
    ∙ from_bits-bit 32 (get_or words i 0) h)

box_looks : (table words : List ℕ) → map (look words) (columns table) ≡ box_on table words
unfolding box_on pick columns list_of
box_looks table words =
    ap (λ (f : ℕ → ℕ). list_of f 4)
    (fun_ext (λ i. ap (from_bits 32) (fun_ext (λ j.
    bit-from_bits 16 (λ n. bit i (get_or table n 0)) (λ n. bit_lt i (get_or table n 0)) (nibble_at words j) (nibble_lt words j)))))

-- x is what a circuit of bit operations gives on four words
pub data Circuit (words : List ℕ) : ℕ → Type 0 where
  word : (i : ℕ) → ltb i 4 ≡ true → Circuit words (get_or words i 0)
  and : {x y : ℕ} → Circuit words x → Circuit words y → Circuit words (bit_and x y)
  or : {x y : ℕ} → Circuit words x → Circuit words y → Circuit words (bit_or x y)
  xor : {x y : ℕ} → Circuit words x → Circuit words y → Circuit words (bit_xor x y)
  not : {x : ℕ} → Circuit words x → Circuit words (4294967295 - x)

-- the same circuit on truth tables
abbrev pub truth : {words : List ℕ} {x : ℕ} → Circuit words x → ℕ
truth (word i l) = from_bits 16 (λ n. bit i n)
truth (and p q) = bit_and (truth p) (truth q)
truth (or p q) = bit_or (truth p) (truth q)
truth (xor p q) = bit_xor (truth p) (truth q)
truth (not p) = bit_xor (truth p) 65535

-- the same of a list of results
pub data Circuits (words : List ℕ) : List ℕ → Type 0 where
  none : Circuits words []
  more : {x : ℕ} {r : List ℕ} → Circuit words x → Circuits words r → Circuits words (x ∷ r)

abbrev pub truths : {words r : List ℕ} → Circuits words r → List ℕ
truths none = []
truths (more p ps) = truth p ∷ truths ps

pub ruleset circuits = (Circuit.word, Circuit.and, Circuit.or, Circuit.xor, Circuit.not, Circuits.none, Circuits.more)

module _ {words : List ℕ} (fits : (i : ℕ) → Fits w32 (get_or words i 0)) where
  sliced : {x : ℕ} (p : Circuit words x) → x ≡ look words (truth p)
  sliced (word i l) = look_word words i (ltb-true i 4 l) (fits i).fits
  sliced (and p q) = ap₂ bit_and (sliced p) (sliced q) ∙ and_pick 32 (nibble_at words) (truth p) (truth q)
  sliced (or p q) = ap₂ bit_or (sliced p) (sliced q) ∙ or_pick 32 (nibble_at words) (truth p) (truth q)
  sliced (xor p q) = ap₂ bit_xor (sliced p) (sliced q) ∙ xor_pick 32 (nibble_at words) (truth p) (truth q)
  sliced (not p) = ap (λ (x : ℕ). 4294967295 - x) (sliced p) ∙ look_not words (truth p)

  all_sliced : {r : List ℕ} (p : Circuits words r) → r ≡ map (look words) (truths p)
  all_sliced none = refl
  all_sliced (more p ps) = ap₂ ◌∷◌ (sliced p) (all_sliced ps)

  -- circuits whose truth tables are a table's columns are the table's box
  pub by_table : (table : List ℕ) {r : List ℕ} (p : Circuits words r) → truths p ≡ columns table → r ≡ box_on table words
  by_table table p e = all_sliced p ∙ ap (map (look words)) e ∙ box_looks table words

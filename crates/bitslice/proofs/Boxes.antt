-- Each box and its inverse undo each other on four words, by one test over the boxes and the nibbles.
-- Assumes nothing.
use mathlib.Core.Path.{◌≡◌, refl, sym, ap, ◌∙◌, fun_ext}
use mathlib.Core.Bool.{Bool, ◌&&◌}
use mathlib.Core.List.{List}
use Prim.Native.Nat.{ℕ, ◌<◌, ◌%◌, ◌^◌}
use native.Mathlib.Nat.{mod-lt}
use lib.Dec.{T, eqb, ltb, eqb→eq, ltb→lt, lit<}
use lib.ListN.{get_or}
use mir.Facts.{and_yes}
use Rattle.words.specs.Sized.{FourWords, list_of}
use Rattle.words.specs.Bits.{bit, from_bits}
use Rattle.words.specs.Inverse.{Inverse}
use Rattle.words.proofs.Each.{each, at}
use Rattle.words.proofs.Lists.{get_or-list_of, sized_list_of, four_all}
use Rattle.words.proofs.Positions.{bit_lt, from_bits_lt, bit-from_bits, from_bits-bit, from_bits_ext}
use Rattle.bitslice.specs.Boxes.{nibble_at, box_on, box, boxes, nibbles, inverse, place_of, box_words, box_inv_words}
use Rattle.bitslice.proofs.Circuits.{nibble_lt, columns, circuits, by_table}

-- ---- a box gives four words
pub box_words_lem : (table words : List ℕ) → FourWords (box_on table words)
unfolding box_on
box_words_lem table words = sized_list_of _ 4 (2 ^ 32) (lit< tt) (λ i _. from_bits_lt 32 _ (λ j. bit_lt i (get_or table (nibble_at words j) 0)))

-- ---- one box after another: the nibbles of the result are the table's
nibble_box : (s words : List ℕ) (j : ℕ) → j < 32 → get_or s (nibble_at words j) 0 < 16 → nibble_at (box_on s words) j ≡ get_or s (nibble_at words j) 0
unfolding nibble_at box_on
nibble_box s words j l h =
    let f : ℕ → ℕ → ℕ = λ i m. bit i (get_or s (nibble_at words m) 0) in
    from_bits_ext 4 (λ i k. ap (bit j) (get_or-list_of (λ i. from_bits 32 (f i)) 4 i k) ∙ bit-from_bits 32 (f i) (λ m. bit_lt i _) j l)
    ∙ from_bits-bit 4 (get_or s (nibble_at words j) 0) h

-- s takes n to a nibble which t takes back to n
undoes : List ℕ → List ℕ → ℕ → Bool
undoes s t n = ltb (get_or s n 0) 16 && eqb (get_or t (get_or s n 0) 0) (get_or nibbles n 0)

both : (s t words : List ℕ) → ((n : ℕ) → n < 16 → T (undoes s t n)) → box_on t (box_on s words) ≡ box_on nibbles words
unfolding box_on undoes
both s t words h =
    ap (λ (f : ℕ → ℕ). list_of f 4) (fun_ext (λ i. from_bits_ext 32 (λ j l.
    let n = nibble_at words j in
    let ok = and_yes (ltb (get_or s n 0) 16) _ (h n (nibble_lt words j)) in
    ap (λ (m : ℕ). bit i (get_or t m 0)) (nibble_box s words j l (ltb→lt _ _ ok.0)) ∙ ap (bit i) (eqb→eq _ _ ok.1))))

-- the table of the nibbles themselves changes nothing
same : (words : List ℕ) → FourWords words → box_on nibbles words ≡ words
unfolding columns
same words h = sym (sym (four_all words h.len) ∙ by_table (λ i. record { fits = h.small i }) nibbles (search circuits) refl)

-- ---- the eight boxes
undoing : (s t : ℕ → List ℕ) → T (each (λ k. each (undoes (s k) (t k)) 16) 8) → (k : ℕ) → k < 8 → (words : List ℕ) → FourWords words → box_on (t k) (box_on (s k) words) ≡ words
undoing s t e k l words h =
    both (s k) (t k) words (at (undoes (s k) (t k)) 16 (at (λ k. each (undoes (s k) (t k)) 16) 8 e k l)) ∙ same words h

undone : (k : ℕ) → k < 8 → (words : List ℕ) → FourWords words → box_on (inverse (box k)) (box_on (box k) words) ≡ words
unfolding undoes box boxes inverse place_of nibbles
undone = undoing box (λ k. inverse (box k)) tt

redone : (k : ℕ) → k < 8 → (words : List ℕ) → FourWords words → box_on (box k) (box_on (inverse (box k)) words) ≡ words
unfolding undoes box boxes inverse place_of nibbles
redone = undoing (λ k. inverse (box k)) box tt

pub box_inverse : (i : ℕ) → Inverse FourWords FourWords (box_words i) (box_inv_words i)
box_inverse i = record {
  there = λ w s. box_words_lem _ w;
  back = λ w s. box_words_lem _ w;
  undo = undone (i % 8) (mod-lt i (lit< tt));
  redo = redone (i % 8) (mod-lt i (lit< tt));
}

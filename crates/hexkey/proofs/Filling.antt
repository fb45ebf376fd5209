-- A buffer that a key is put into, byte by byte.
-- Assumes nothing.
use Rattle.std.proofs.Common.{◌≡◌, ℕ, ◌+◌, ◌≤◌, ◌<◌, List, [], ◌∷◌, length, get_or, drop, set, refl, sym, ap, ap₂, ◌∙◌, arith, length-drop, length-set}
use Rattle.std.proofs.lemmas.List.{drop_more, set-get_or}
use Rattle.std.proofs.lemmas.List.Edits.{paste_none}
use Rattle.std.proofs.Math.Seq.{paste}
use Rattle.answers.specs.Answers.{front}
use Rattle.answers.proofs.Answers.{next_pasted, pasted}

-- i bytes of the key stand in front of what the buffer was, and the rest is still to come
pub record Filled (key was : List ℕ) (i : ℕ) (rest out : List ℕ) : Type 0 where
  pub few : i ≤ length key
  pub size : length out ≡ length was
  pub later : rest ≡ drop i key
  pub done : out ≡ paste was 0 key i

module _ (key was : List ℕ) where
  pub start : Filled key was 0 key was
  start = record { few = omega arith; size = refl; later = refl; done = paste_none was 0 key }

  module _ {i : ℕ} {rest out : List ℕ} (f : Filled key was i rest out) where
    pub more : {byte : ℕ} {others : List ℕ} → i < length out → rest ≡ byte ∷ others
        → Filled key was (i + 1) others (set out i byte)
    more {byte} {others} l e =
        let inside : i < length key = omega (arith, length-drop i key, ap length (sym f.later ∙ e)) in
        let split : byte ∷ others ≡ get_or key i 0 ∷ drop (i + 1) key = sym e ∙ f.later ∙ drop_more key i 0 inside in
        let first : byte ≡ get_or key i 0 = ap (λ (l : List ℕ). get_or l 0 0) split in
        record {
          few = omega arith;
          size = simp length-set f.size;
          later = ap (drop 1) split;
          done = ap₂ (λ (o : List ℕ) (b : ℕ). set o i b) f.done first ∙ next_pasted key was i (omega (arith, f.size)) inside;
        }

    whole : length key ≤ i → out ≡ front key was
    whole l =
        let all : i ≡ length key = omega (arith, f.few) in
        f.done ∙ ap (paste was 0 key) all ∙ pasted key was

    -- no byte is left
    pub ended : rest ≡ [] → set out i (get_or out i 0) ≡ front key was
    ended e = set-get_or out i 0 ∙ whole (omega (arith, length-drop i key, ap length (sym f.later ∙ e)))

    -- no place is left
    pub full : length out ≤ i → length key ≤ length was → out ≡ front key was
    full l room = whole (omega (arith, f.size))

-- What reading a key finds: the length of the key, and the place of the first byte that is neither digit nor white space.
-- Assumes nothing.
use Rattle.std.proofs.Common.{◌≡◌, ℕ, suc, ◌+◌, ◌/◌, Bool, cond, eqb, true, false, List, [], ◌∷◌, length, position, Option, Some, None, MatchOption, refl, sym, subst, add-one}
use Rattle.std.specs.List.{position_from}
use Rattle.std.proofs.lemmas.Iterator.Adapters.{position_from-zero}
use Rattle.words.proofs.Lists.{length-list_of}
use Rattle.hexkey.specs.Key.{value, digits, wrong, wrong_from, key_bytes}

pub key_length : (text : List ℕ) → length (key_bytes text) ≡ length (digits text) / 2
unfolding key_bytes
key_length text = length-list_of _ _

abbrev pub is_wrong : ℕ → Bool
is_wrong b = eqb (value b) 17

-- where a text's first byte has place n, what a search that counts from 0 gives: the bytes before what is wrong
abbrev Placed : ℕ → List ℕ → Option ℕ → Type 0
Placed n text found = MatchOption found (wrong_from n text ≡ 0) (λ before. wrong_from n text ≡ before + 1)

from_place : (n : ℕ) (text : List ℕ) → Placed (n + 1) text (position_from is_wrong n text)
unfolding wrong_from
from_place n [] = refl
from_place n (b ∷ text) = by (rw (add-one (n + 1)) at (from_place (n + 1) text)) (is_wrong b)
  where
    by : Placed (suc (n + 1)) text (position_from is_wrong (n + 1) text) → (t : Bool)
        → MatchOption (cond t (Some n) (position_from is_wrong (n + 1) text))
        (cond t (n + 1) (wrong_from (suc (n + 1)) text) ≡ 0)
        (λ before. cond t (n + 1) (wrong_from (suc (n + 1)) text) ≡ before + 1)
    by later true = refl
    by later false = later

module _ (text : List ℕ) where
  at_position : Placed 1 text (position is_wrong text)
  at_position = subst (Placed 1 text) (sym (position_from-zero is_wrong text)) (from_place 0 text)

  pub placed : {before : ℕ} → Some before ≡ position is_wrong text → wrong text ≡ before + 1
  placed e = subst (Placed 1 text) (sym e) at_position

  pub clean : None ≡ position is_wrong text → wrong text ≡ 0
  clean e = subst (Placed 1 text) (sym e) at_position

pub ruleset reading = (key_length, placed, clean)

-- The parts of the cipher over slices: each number where its test is the first to hold, and the bytes that are put.
-- Assumes nothing.
use mathlib.Core.Path.{◌≡◌, refl, ap, ◌∙◌}
use mathlib.Core.List.{List}
use Prim.Native.Nat.{ℕ}
use borrow.Author.Tests.{eq-eqb, ne_eqb}
use Rattle.answers.specs.Answers.{◌when◌, on_done, first_number, room_number}
use Rattle.answers.proofs.Answers.{first_here, first_later, last_test}
use Rattle.words.specs.Bytes.{words_of, bytes_of}
use Rattle.bitslice.specs.Chosen.{box_number}
use Rattle.serpent.specs.Keys.{key_number}
use Rattle.slices.specs.Parts.{setup_number, on_words, words_number, boxed_number}

-- ---- what a key makes: 1, 5
module _ (key out size : ℕ) where
  pub bad_key : (key_number key ≡ 0 → ⊥) → setup_number key out size ≡ key_number key
  unfolding setup_number
  bad_key h = first_here _ h

  pub good_key : key_number key ≡ 0 → setup_number key out size ≡ room_number out size
  unfolding setup_number
  good_key e = first_later _ e ∙ last_test _

-- ---- a function of four words: 2, 5
module _ (words out : ℕ) where
  pub bad_words : (words ≡ 16 → ⊥) → words_number words out ≡ 2
  unfolding words_number first_number on_done ◌when◌
  bad_words h = simp (ne_eqb _ _ h)

  pub good_words : words ≡ 16 → words_number words out ≡ room_number out 16
  unfolding words_number ◌when◌
  good_words e = simp (eq-eqb _ _ e) (first_later _ refl ∙ last_test _)

-- ---- a box: 2, 8, 5
module _ (index words out : ℕ) where
  pub bad_boxed : (words ≡ 16 → ⊥) → boxed_number index words out ≡ 2
  unfolding boxed_number first_number on_done ◌when◌
  bad_boxed h = simp (ne_eqb _ _ h)

  pub good_boxed : words ≡ 16 → box_number index ≡ 0 → boxed_number index words out ≡ room_number out 16
  unfolding boxed_number ◌when◌
  good_boxed e z = simp (eq-eqb _ _ e) (first_later _ refl ∙ first_later _ z ∙ last_test _)

-- words read, changed, and written as bytes
pub through : (f : List ℕ → List ℕ) (words : List ℕ) {read changed bytes : List ℕ}
    → read ≡ words_of words 4 → changed ≡ f read → bytes ≡ bytes_of changed 16 → bytes ≡ on_words f words
through f words r c e = e ∙ ap (λ (w : List ℕ). bytes_of w 16) (c ∙ ap f r)

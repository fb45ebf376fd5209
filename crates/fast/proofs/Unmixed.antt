-- A round undone, its round keys at hand.
-- Assumes nothing.
use mathlib.Core.Path.{◌≡◌, ap₂}
use mathlib.Core.List.{List}
use Prim.Native.Nat.{ℕ, ◌*◌, ◌%◌}
use Rattle.words.specs.Sized.{four}
use Rattle.bitslice.specs.Boxes.{box, box_on, inverse, box_inv_words}
use Rattle.bitslice.specs.Linear.{linear_transform_inv}
use Rattle.state.specs.Words.{xor_words}
use Rattle.serpent.specs.Block.{mix, unround}
use Rattle.fast.specs.Turns.{unlast, unmixed, unmixed_last}

module _ (ks : List ℕ) where
  pub undoes : (i n : ℕ) (b : List ℕ) {k : List ℕ}
      → n % 8 ≡ i % 8 → k ≡ four ks (4 * i) → unmixed n k b ≡ unround ks i b
  unfolding unround mix
  undoes i n b same e =
      ap₂ (λ (m : ℕ) (v : List ℕ). xor_words (box_on (inverse (box m)) (linear_transform_inv b)) v) same e

  pub undoes_last : (b : List ℕ) {k after : List ℕ}
      → k ≡ four ks 124 → after ≡ four ks 128 → unmixed_last k after b ≡ unlast ks b
  unfolding unlast mix
  undoes_last b e f = ap₂ (λ (v w : List ℕ). xor_words (box_inv_words 31 (xor_words b w)) v) e f

-- Serpent's linear transform, as the paper has it: ten steps on four words.
use Rattle.std.specs.Prelude.{List, [], ◌∷◌, ◌++◌, ℕ, ◌-◌, get_or, set}
use Rattle.std.specs.Int.Bits.{bit_xor}
use Rattle.words.specs.Rotation.{rotl, shl}

-- a step changes one word. `turn i n`: X i rotl n; `mix i j k`: X i ^= X j ^ X k; `mixShl i j k n`: X i ^= X j ^ (X k << n)
pub data Step : Type 0 where
  turn : ℕ → ℕ → Step
  mix : ℕ → ℕ → ℕ → Step
  mix_shl : ℕ → ℕ → ℕ → ℕ → Step

unfoldable pub step : Step → List ℕ → List ℕ
step (turn i n) x = set x i (rotl n (get_or x i 0))
step (mix i j k) x = set x i (bit_xor (get_or x i 0) (bit_xor (get_or x j 0) (get_or x k 0)))
step (mix_shl i j k n) x = set x i (bit_xor (get_or x i 0) (bit_xor (get_or x j 0) (shl n (get_or x k 0))))

-- the steps in order
unfoldable pub run : List Step → List ℕ → List ℕ
run [] x = x
run (s ∷ ss) x = run ss (step s x)

unfoldable pub linear : List Step
linear =
    turn 0 13 ∷ turn 2 3 ∷ mix 1 0 2 ∷ mix_shl 3 2 0 3 ∷ turn 1 1 ∷ turn 3 7 ∷ mix 0 1 3 ∷ mix_shl 2 3 1 7 ∷ turn 0 5
    ∷ turn 2 22 ∷ []

-- the step that undoes a step: a rotation goes on to 32, and the others undo themselves
unfoldable pub back : Step → Step
back (turn i n) = turn i (32 - n)
back (mix i j k) = mix i j k
back (mix_shl i j k n) = mix_shl i j k n

-- the inverse steps in reverse order
unfoldable pub undo : List Step → List Step
undo [] = []
undo (s ∷ ss) = undo ss ++ (back s ∷ [])

-- the transform, and its inverse
abbrev pub linear_transform : List ℕ → List ℕ
linear_transform words = run linear words

abbrev pub linear_transform_inv : List ℕ → List ℕ
linear_transform_inv words = run (undo linear) words

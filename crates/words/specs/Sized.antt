-- Lists of a length and a bound: words, bytes and blocks as the code holds them.
use Rattle.std.specs.Prelude.{◌≡◌, List, [], ◌∷◌, ◌++◌, ℕ, zero, suc, ◌+◌, ◌^◌, ◌<◌, length, get_or}

-- n numbers below m
pub record Sized (n m : ℕ) (l : List ℕ) : Type 0 where
  pub len : length l ≡ n
  pub small : (i : ℕ) → get_or l i 0 < m

-- four words of 32 bits
abbrev pub FourWords : List ℕ → Type 0
FourWords = Sized 4 (2 ^ 32)

-- a block: sixteen bytes
abbrev pub Block : List ℕ → Type 0
Block = Sized 16 (2 ^ 8)

-- the list of f 0, f 1, .., f (n - 1)
unfoldable pub list_of : (ℕ → ℕ) → ℕ → List ℕ
list_of f zero = []
list_of f (suc n) = list_of f n ++ (f n ∷ [])

-- the four elements from place p
abbrev pub four : List ℕ → ℕ → List ℕ
four w p = get_or w p 0 ∷ get_or w (p + 1) 0 ∷ get_or w (p + 2) 0 ∷ get_or w (p + 3) 0 ∷ []

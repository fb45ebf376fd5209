-- Blocks side by side.
use Rattle.std.specs.Prelude.{◌≡◌, List, [], ◌∷◌, ◌++◌, ℕ, zero, suc, ◌+◌, ◌*◌, ◌<◌, length, get_or, set}
use Rattle.words.specs.Blocks.{block_at}
use Rattle.words.specs.Bytes.{words_of, bytes_of}
use Rattle.serpent.specs.Block.{decrypt_bytes}

-- the first n blocks of a byte string, each deciphered on its own
unfoldable pub decrypt_each : List ℕ → ℕ → List ℕ → List ℕ
decrypt_each ks zero bytes = []
decrypt_each ks (suc n) bytes = decrypt_each ks n bytes ++ decrypt_bytes ks (block_at bytes (n * 16))

-- ---- how the code holds them: sixteen lanes of four words, lane j being words j, j + 16, j + 32 and j + 48
abbrev pub lane : List ℕ → ℕ → List ℕ
lane w j = get_or w j 0 ∷ get_or w (j + 16) 0 ∷ get_or w (j + 32) 0 ∷ get_or w (j + 48) 0 ∷ []

abbrev pub put_lane : List ℕ → ℕ → List ℕ → List ℕ
put_lane w j x = set (set (set (set w j (get_or x 0 0)) (j + 16) (get_or x 1 0)) (j + 32) (get_or x 2 0)) (j + 48) (get_or x 3 0)

-- R relates each lane of w to that lane of r
pub record EachLane (R : List ℕ → List ℕ → Type 0) (w r : List ℕ) : Type 0 where
  pub size : length r ≡ 64
  pub each : (j : ℕ) → j < 16 → R (lane w j) (lane r j)

-- each lane of r is f of that lane of w
pub record Lanes (f : List ℕ → List ℕ) (w r : List ℕ) : Type 0 where
  pub size : length r ≡ 64
  pub each : (j : ℕ) → j < 16 → lane r j ≡ f (lane w j)

-- the lanes below n are the blocks of a byte string, as words
pub record Loaded (bytes w : List ℕ) (n : ℕ) : Type 0 where
  pub size : length w ≡ 64
  pub each : (j : ℕ) → j < n → lane w j ≡ words_of (block_at bytes (j * 16)) 4

-- the bytes of the lanes below n, one after the other
unfoldable pub lane_bytes : List ℕ → ℕ → List ℕ
lane_bytes w zero = []
lane_bytes w (suc n) = lane_bytes w n ++ bytes_of (lane w n) 16

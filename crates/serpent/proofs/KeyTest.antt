-- What the key test tells of a key's length, and the lengths that pass it.
-- Assumes nothing.
use mathlib.Core.Path.{◌≡◌, refl}
use mathlib.Core.Bool.{Bool, true, false, ◌||◌}
use mathlib.Core.List.{List}
use mathlib.Core.Logic.{◌⊎◌, inl, inr}
use Prim.Native.Nat.{ℕ, ◌≤◌, ◌<◌}
use native.Mathlib.Omega.{arith}
use borrow.Author.Tests.{lt-ltb, le-ltb, ltb-false}
use lib.ListN.{length}
use Rattle.answers.specs.Answers.{◌when◌, on_done, first_number}
use Rattle.answers.proofs.Answers.{done, passed, not_held}
use Rattle.serpent.specs.Schedule.{schedule}
use Rattle.serpent.specs.Keys.{least_key, greatest_key, key_number, keyed}

-- a length that key setup accepts
pub record Accepted (n : ℕ) : Type 0 where
  pub least : least_key ≤ n
  pub most : n ≤ greatest_key

or_true : (a : Bool) → (a || true) ≡ true
or_true true = refl
or_true false = refl

neither : (a b : Bool) → (a || b) ≡ false → (a ≡ false) × (b ≡ false)
neither true b e = let z : ◌≡◌ {A = ℕ} 0 1 = cc in absurd (omega arith)
neither false b e = (refl, e)

pub accepted : (n : ℕ) → key_number n ≡ 0 → Accepted n
unfolding key_number
accepted n e =
    let h = neither _ _ (not_held 0 _ (passed _ _ e).0) in
    record { least = ltb-false n 16 h.0; most = ltb-false 32 n h.1 }

pub accepts : (n : ℕ) → Accepted n → key_number n ≡ 0
unfolding key_number first_number on_done ◌when◌
accepts n h = simp (le-ltb _ _ h.least, le-ltb _ _ h.most)

pub refuses : (n : ℕ) → (n < least_key) ⊎ (greatest_key < n) → key_number n ≡ 1
unfolding key_number first_number on_done ◌when◌
refuses n (inl h) = simp (lt-ltb _ _ h)
refuses n (inr h) = simp (lt-ltb _ _ h, or_true)

-- an accepted key has its schedule
pub keyed_accepted : (key : List ℕ) → Accepted (length key) → (keyed key).cipher.round_keys ≡ schedule key
keyed_accepted key h = done _ _ (accepts (length key) h)

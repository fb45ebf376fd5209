-- A chain under a key: past the tests of key and lengths it is the chain under the key's round keys, from the start block.
-- Assumes nothing.
use mathlib.Core.Path.{◌≡◌, sym, ap₂, ◌∙◌}
use mathlib.Core.List.{List}
use Prim.Native.Nat.{ℕ}
use lib.ListN.{length}
use Rattle.answers.specs.Answers.{left}
use Rattle.answers.proofs.Answers.{first_later, passed}
use Rattle.answers.proofs.Numbers.{later, late}
use Rattle.serpent.specs.Schedule.{schedule}
use Rattle.serpent.specs.Keys.{key_number}
use Rattle.chain.specs.Slices.{blocks_number, lengths_number, chain_number}

-- the tests that are left are those under round keys
under_key : (key text start out : ℕ) → 0 ≡ key_number key → 0 ≡ lengths_number text start → blocks_number text out ≡ chain_number key text start out
unfolding blocks_number lengths_number chain_number
under_key key text start out k l = later _ k (late _ _ l (first_later _ (passed _ _ (sym l)).0))

-- for any function of round keys, start block and bytes
module _ (F : List ℕ → List ℕ → List ℕ → List ℕ) where
  pub written : (key bytes start out : List ℕ) {m : ℕ} {ks block last : List ℕ}
      → 0 ≡ key_number (length key) → ks ≡ schedule key → 0 ≡ lengths_number (length bytes) (length start) → block ≡ start
      → m ≡ blocks_number (length bytes) (length out) → last ≡ left (blocks_number (length bytes) (length out)) (F ks block bytes) out
      → (m ≡ chain_number (length key) (length bytes) (length start) (length out)) × (last ≡ left (chain_number (length key) (length bytes) (length start) (length out)) (F (schedule key) start bytes) out)
  written key bytes start out k ek l es em el =
      let order = under_key (length key) (length bytes) (length start) (length out) k l in
      (em ∙ order, el ∙ ap₂ (λ (n : ℕ) (answer : List ℕ). left n answer out) order (ap₂ (λ (a b : List ℕ). F a b bytes) ek es))

-- One block under a key, over slices: what number 0 tells of the lengths, and when each number is given.
-- Assumes nothing.
use mathlib.Core.Path.{◌≡◌, sym, ◌∙◌}
use mathlib.Core.List.{List}
use Prim.Native.Nat.{ℕ, suc, ◌≤◌, ◌<◌}
use native.Mathlib.Omega.{arith}
use borrow.Author.Tests.{lt-ltb, le-ltb, ltb-false, eq-eqb, ne_eqb, eqb-true}
use Rattle.answers.specs.Answers.{◌when◌, on_done, first_number, left}
use Rattle.answers.specs.declared.Refusal.TheVariants.{TextLength}
use Rattle.answers.proofs.Answers.{first_here, passed, not_held, holds}
use Rattle.answers.proofs.Numbers.{kept}
use Rattle.serpent.specs.Keys.{key_number}
use Rattle.slices.specs.Blocks.{block_number}

pub record Ready (key block out : ℕ) : Type 0 where
  pub keys : key_number key ≡ 0
  pub size : block ≡ 16
  pub room : 16 ≤ out

pub ready : (key block out : ℕ) → block_number key block out ≡ 0 → Ready key block out
unfolding block_number
ready key block out e =
    let k = passed _ _ e in
    let b = passed _ _ k.1 in
    let o = passed _ _ b.1 in
    record {
      keys = k.0;
      size = eqb-true block 16 (holds 1 _ b.0);
      room = ltb-false out 16 (not_held 4 _ o.0);
    }

pub ready_done : (key block out : ℕ) → Ready key block out → block_number key block out ≡ 0
unfolding block_number first_number on_done ◌when◌
ready_done key block out h = simp (h.keys, eq-eqb _ _ h.size, le-ltb _ _ h.room)

-- the numbers, in their order
module _ (key block out : ℕ) where
  pub bad_key : {n : ℕ} → key_number key ≡ suc n → block_number key block out ≡ suc n
  unfolding block_number
  bad_key e = first_here _ (λ z. omega arith) ∙ e

  pub bad_block : key_number key ≡ 0 → (block ≡ 16 → ⊥) → block_number key block out ≡ 2
  unfolding block_number first_number on_done ◌when◌
  bad_block e h = simp (e, ne_eqb _ _ h)

  pub other_block : 0 ≡ key_number key → (block ≡ 16 → ⊥) → 2 ≡ block_number key block out
  other_block e h = sym (bad_block (sym e) h)

  pub other_kept : (answer buffer : List ℕ) → 0 ≡ key_number key → (block ≡ 16 → ⊥) → buffer ≡ left (block_number key block out) answer buffer
  other_kept answer buffer e h = kept TextLength answer buffer (other_block e h)

  pub short_buffer : key_number key ≡ 0 → block ≡ 16 → out < 16 → block_number key block out ≡ 5
  unfolding block_number first_number on_done ◌when◌
  short_buffer e f h = simp (e, eq-eqb _ _ f, lt-ltb _ _ h)

-- The orders of tests: each number where its test is the first to hold, and what number 0 tells of the lengths.
-- Assumes nothing.
use mathlib.Core.Path.{◌≡◌, ◌∙◌}
use Prim.Native.Nat.{ℕ, suc, ◌≤◌, ◌<◌, ◌%◌, ◌/◌}
use native.Mathlib.Omega.{arith}
use borrow.Author.Tests.{lt-ltb, le-ltb, ltb-false, eq-eqb, ne_eqb, eqb-true}
use Rattle.answers.specs.Answers.{◌when◌, on_done, first_number}
use Rattle.answers.proofs.Answers.{first_here, passed, not_held, holds}
use Rattle.serpent.specs.Keys.{key_number}
use Rattle.chain.specs.Slices.{block_limit, blocks_number, lengths_number, chain_number}

-- ---- under round keys
module _ (text out : ℕ) where
  pub ragged_blocks : (text % 16 ≡ 0 → ⊥) → blocks_number text out ≡ 2
  unfolding blocks_number first_number on_done ◌when◌
  ragged_blocks h = simp (ne_eqb _ _ h)

  pub short_blocks : text % 16 ≡ 0 → out < text → blocks_number text out ≡ 5
  unfolding blocks_number first_number on_done ◌when◌
  short_blocks e h = simp (eq-eqb _ _ e, lt-ltb _ _ h)

  pub done_blocks : text % 16 ≡ 0 → text ≤ out → blocks_number text out ≡ 0
  unfolding blocks_number first_number on_done ◌when◌
  done_blocks e h = simp (eq-eqb _ _ e, le-ltb _ _ h)

  pub room_blocks : blocks_number text out ≡ 0 → text ≤ out
  unfolding blocks_number
  room_blocks e = ltb-false out text (not_held 4 _ (passed _ _ (passed _ _ e).1).0)

-- ---- the lengths of text and start block, as the code comes to them
module _ (text start : ℕ) where
  pub uneven : (text % 16 ≡ 0 → ⊥) → 2 ≡ lengths_number text start
  unfolding lengths_number first_number on_done ◌when◌
  uneven h = simp (ne_eqb _ _ h)

  pub other_start : text % 16 ≡ 0 → (start ≡ 16 → ⊥) → 3 ≡ lengths_number text start
  unfolding lengths_number first_number on_done ◌when◌
  other_start t h = simp (eq-eqb _ _ t, ne_eqb _ _ h)

  pub past_limit : text % 16 ≡ 0 → start ≡ 16 → block_limit < text / 16 → 4 ≡ lengths_number text start
  unfolding lengths_number first_number on_done ◌when◌
  past_limit t s h = simp (eq-eqb _ _ t, eq-eqb _ _ s, lt-ltb _ _ h)

  pub within_limit : text % 16 ≡ 0 → start ≡ 16 → text / 16 ≤ block_limit → 0 ≡ lengths_number text start
  unfolding lengths_number first_number on_done ◌when◌
  within_limit t s h = simp (eq-eqb _ _ t, eq-eqb _ _ s, le-ltb _ _ h)

-- ---- under a key
pub record Ready (key text start out : ℕ) : Type 0 where
  pub keys : key_number key ≡ 0
  pub whole : text % 16 ≡ 0
  pub size : start ≡ 16
  pub few : text / 16 ≤ block_limit
  pub room : text ≤ out

pub ready : (key text start out : ℕ) → chain_number key text start out ≡ 0 → Ready key text start out
unfolding chain_number
ready key text start out e =
    let k = passed _ _ e in
    let t = passed _ _ k.1 in
    let s = passed _ _ t.1 in
    let b = passed _ _ s.1 in
    let o = passed _ _ b.1 in
    record {
      keys = k.0;
      whole = eqb-true (text % 16) 0 (holds 1 _ t.0);
      size = eqb-true start 16 (holds 2 _ s.0);
      few = ltb-false block_limit (text / 16) (not_held 3 _ b.0);
      room = ltb-false out text (not_held 4 _ o.0);
    }

module _ (key text start out : ℕ) where
  pub ready_done : Ready key text start out → chain_number key text start out ≡ 0
  unfolding chain_number first_number on_done ◌when◌
  ready_done h = simp (h.keys, eq-eqb _ _ h.whole, eq-eqb _ _ h.size, le-ltb _ _ h.few, le-ltb _ _ h.room)

  pub bad_key : {n : ℕ} → key_number key ≡ suc n → chain_number key text start out ≡ suc n
  unfolding chain_number
  bad_key e = first_here _ (λ z. omega arith) ∙ e

  pub ragged : key_number key ≡ 0 → (text % 16 ≡ 0 → ⊥) → chain_number key text start out ≡ 2
  unfolding chain_number first_number on_done ◌when◌
  ragged k h = simp (k, ne_eqb _ _ h)

  pub bad_start : key_number key ≡ 0 → text % 16 ≡ 0 → (start ≡ 16 → ⊥) → chain_number key text start out ≡ 3
  unfolding chain_number first_number on_done ◌when◌
  bad_start k t h = simp (k, eq-eqb _ _ t, ne_eqb _ _ h)

  pub too_many : key_number key ≡ 0 → text % 16 ≡ 0 → start ≡ 16 → block_limit < text / 16 → chain_number key text start out ≡ 4
  unfolding chain_number first_number on_done ◌when◌
  too_many k t s h = simp (k, eq-eqb _ _ t, eq-eqb _ _ s, lt-ltb _ _ h)

  pub short_buffer : key_number key ≡ 0 → text % 16 ≡ 0 → start ≡ 16 → text / 16 ≤ block_limit → out < text → chain_number key text start out ≡ 5
  unfolding chain_number first_number on_done ◌when◌
  short_buffer k t s l h = simp (k, eq-eqb _ _ t, eq-eqb _ _ s, le-ltb _ _ l, lt-ltb _ _ h)

-- Rotations of words of 32 bits.
-- Assumes nothing.
use mathlib.Core.Path.{◌≡◌, sym, ap, ◌∙◌}
use Prim.Native.Nat.{ℕ, zero, suc, ◌+◌, ◌-◌, ◌*◌, ◌/◌, ◌%◌, ◌^◌, ◌≤◌, ◌<◌}
use native.Mathlib.Nat.{mul-mod_left, add-zero, mod-lt}
use native.Mathlib.Omega.{arith}
use lib.Arith.{digits_lt}
use lib.Pow.{pow_pos, pow-add, shl-shr, shr_lt, mod-pow-add, split, high, low}
use lib.Bits.{bit_or, or_self, or_comm, or_shifted}
use Rattle.std.specs.Int.{rotate_left, rotate_right}
use Rattle.std.proofs.Common.{w32}
use Rattle.words.specs.Rotation.{rotl, rotr}

module _ (n x : ℕ) (l : n ≤ 32) (h : x < 2 ^ 32) where
  all : 2 ^ (32 - n) * 2 ^ n ≡ 2 ^ 32
  all = let e : (32 - n) + n ≡ 32 = omega arith in sym (pow-add 2 (32 - n) n) ∙ ap (λ (m : ℕ). 2 ^ m) e

  high_lt : x / 2 ^ (32 - n) < 2 ^ n
  high_lt = let e : n + (32 - n) ≡ 32 = omega arith in shr_lt n (32 - n) (rw e h)

  shifted : x * 2 ^ n % 2 ^ 32 ≡ x % 2 ^ (32 - n) * 2 ^ n
  shifted =
      let e : 32 ≡ (32 - n) + n = omega arith in
      ap (λ (m : ℕ). x * 2 ^ n % 2 ^ m) e ∙ mod-pow-add (x * 2 ^ n) (32 - n) n
      ∙ ap (λ (m : ℕ). m % 2 ^ (32 - n) * 2 ^ n + x * 2 ^ n % 2 ^ n) (shl-shr x n)
      ∙ ap (λ (m : ℕ). x % 2 ^ (32 - n) * 2 ^ n + m) (mul-mod_left x (2 ^ n)) ∙ add-zero _

  rotl_or : bit_or (x * 2 ^ n % 2 ^ 32) (x / 2 ^ (32 - n)) ≡ rotl n x
  unfolding rotl
  rotl_or = rw shifted (or_shifted _ n _ high_lt)

  pub rotl_lt : rotl n x < 2 ^ 32
  unfolding rotl
  rotl_lt = rw all at (digits_lt (mod-lt x (pow_pos (32 - n))) high_lt)

  pub rotl_back : rotl (32 - n) (rotl n x) ≡ x
  unfolding rotl
  rotl_back =
      let e : 32 - (32 - n) ≡ n = omega arith in
      rw (e, low (x % 2 ^ (32 - n)) n high_lt, high (x % 2 ^ (32 - n)) n high_lt) (split x (32 - n))

-- ---- the standard library's rotations, whose counts it reduces by 32
module _ (x : ℕ) (h : x < 2 ^ 32) where
  none : rotl 0 x ≡ x
  unfolding rotl
  none = omega arith

  full : rotl 32 x ≡ x
  unfolding rotl
  full = omega arith

  left : (k : ℕ) → k < 32 → bit_or (x * 2 ^ k % 2 ^ 32) (x / 2 ^ ((32 - k) % 32)) ≡ rotl k x
  left zero l =
      let e : x * 2 ^ 0 % 2 ^ 32 ≡ x = omega arith in
      let f : x / 2 ^ 0 ≡ x = omega arith in
      rw (e, f, or_self) (sym none)
  left (suc k) l =
      let e : (32 - suc k) % 32 ≡ 32 - suc k = omega arith in
      rw e (rotl_or (suc k) x (omega arith) h)

  right : (k : ℕ) → k < 32 → bit_or (x / 2 ^ k) (x * 2 ^ ((32 - k) % 32) % 2 ^ 32) ≡ rotl (32 - k) x
  right zero l =
      let e : x * 2 ^ 0 % 2 ^ 32 ≡ x = omega arith in
      let f : x / 2 ^ 0 ≡ x = omega arith in
      rw (e, f, or_self) (sym full)
  right (suc k) l =
      let e : (32 - suc k) % 32 ≡ 32 - suc k = omega arith in
      let f : 32 - (32 - suc k) ≡ suc k = omega arith in
      let swap = or_comm (x / 2 ^ suc k) (x * 2 ^ (32 - suc k) % 2 ^ 32) in
      rw e (swap ∙ rw f at (rotl_or (32 - suc k) x (omega arith) h))

  pub rotated_left : (n : ℕ) → rotl (n % 32) x ≡ rotate_left w32 x n
  rotated_left n = sym (left (n % 32) (omega arith))

  pub rotated_right : (n : ℕ) → rotr (n % 32) x ≡ rotate_right w32 x n
  rotated_right n = sym (right (n % 32) (omega arith))

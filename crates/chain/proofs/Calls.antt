-- What the calls of `array::from_fn` gave, place by place, where each call keeps what its closure holds.
-- Assumes nothing.
use Rattle.std.proofs.Common.{◌≡◌, ℕ, zero, suc, ◌+◌, ◌<◌, List, get_or, ◌∙◌, arith}
use Rattle.std.specs.Array.{IsFromFnResultFrom}
use denote.Param.Members.{Mut, Called}
use native.Mathlib.Nat.{add-zero}

module _ {F : Type 0} (g : Mut F (ℕ × Unit {0}) ℕ) (Holds : F → Type 0) (h : ℕ → ℕ)
    (step : (p q : F) (i y : ℕ) → Holds p → Called g p (i, tt) y q → Holds q × (y ≡ h i)) where
  pub each_made : (n i : ℕ) (f : F) (ys : List ℕ) → Holds f → IsFromFnResultFrom g f ys i n → (j : ℕ) → j < n → get_or ys (i + j) 0 ≡ h (i + j)
  each_made zero i f ys s r j l = absurd (omega arith)
  each_made (suc n) i f ys s (q, y, e, k, more) zero l = rw add-zero (e.1 0 ∙ (step f q i y s k).1)
  each_made (suc n) i f ys s (q, y, e, k, more) (suc j) l =
      let on : i + 1 + j ≡ i + suc j = omega arith in
      rw on at (each_made n (i + 1) q ys (step f q i y s k).0 more j (omega arith))

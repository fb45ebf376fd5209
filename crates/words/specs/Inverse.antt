-- Two functions on lists that undo each other.
use Rattle.std.specs.Prelude.{◌≡◌, List, ℕ}

-- f takes P to Q, g takes Q to P, and each undoes the other
pub record Inverse (P Q : List ℕ → Type 0) (f g : List ℕ → List ℕ) : Type 0 where
  pub there : (l : List ℕ) → P l → Q (f l)
  pub back : (l : List ℕ) → Q l → P (g l)
  pub undo : (l : List ℕ) → P l → g (f l) ≡ l
  pub redo : (l : List ℕ) → Q l → f (g l) ≡ l

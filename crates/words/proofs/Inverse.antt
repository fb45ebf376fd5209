-- Pairs of functions that undo each other, one after the other.
-- Assumes nothing.
use mathlib.Core.Path.{refl, ap, ◌∙◌}
use mathlib.Core.List.{List}
use Prim.Native.Nat.{ℕ}
use Rattle.words.specs.Inverse.{Inverse}

pub id_inverse : (P : List ℕ → Type 0) → Inverse P P (λ l. l) (λ l. l)
id_inverse P = record { there = λ l p. p; back = λ l p. p; undo = λ l p. refl; redo = λ l p. refl }

-- the same pair the other way round
pub turned : {P Q : List ℕ → Type 0} {f g : List ℕ → List ℕ} → Inverse P Q f g → Inverse Q P g f
turned v = record { there = v.back; back = v.there; undo = v.redo; redo = v.undo }

-- one pair after another, undone in reverse order
pub then : {P Q R : List ℕ → Type 0} {f g f' g' : List ℕ → List ℕ} → Inverse P Q f g → Inverse Q R f' g' → Inverse P R (λ l. f' (f l)) (λ l. g (g' l))
then {g = g} {f' = f'} v w = record {
  there = λ l p. w.there _ (v.there l p);
  back = λ l r. v.back _ (w.back l r);
  undo = λ l p. ap g (w.undo _ (v.there l p)) ∙ v.undo l p;
  redo = λ l r. ap f' (v.redo _ (w.back l r)) ∙ w.redo l r;
}

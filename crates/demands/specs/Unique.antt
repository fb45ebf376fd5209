-- What it is that a promise leaves no choice.
use Rattle.std.specs.Prelude.{◌≡◌}

-- a promise P speaks of lifetimes κs, arguments, result and parameters at exit; any two outcomes that meet it look the same
abbrev pub Determines : {K : Type 0} {A R S B : K → Type 0} → ((κs : K) → A κs → R κs → S κs → Type 0) → ((κs : K) → R κs → S κs → B κs) → Type 0
Determines {K} {A} {R} {S} P seen =
    (κs : K) (a : A κs) (x y : R κs) (s t : S κs) → P κs a x s → P κs a y t → seen κs x s ≡ seen κs y t

-- no two unlike results meet it
abbrev pub OneResult : {K : Type 0} {A R S : K → Type 0} → ((κs : K) → A κs → R κs → S κs → Type 0) → Type 0
OneResult P = Determines P (λ κs x s. x)

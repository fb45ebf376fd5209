-- What the number of an answer tells. Assumes nothing.
use mathlib.Core.Path.{◌≡◌, refl, sym, ap, ◌∙◌}
use mathlib.Core.List.{List, [], ◌∷◌, ◌++◌}
use Prim.Native.Nat.{ℕ, zero, suc}
use native.Mathlib.Omega.{arith}
use lib.ListN.{get_or}
use Rattle.std.specs.Prelude.{Result, Ok, Err, IfOk}
use Rattle.answers.specs.Answers.{first_number, left}
use Rattle.answers.specs.Numbers.{code, number}
use Rattle.answers.specs.declared.Refusal.{Refusal}
use Rattle.answers.specs.declared.Refusal.TheVariants.{KeyLength, TextLength, StartLength, TooMany, OutShort, FrameLength, Version, NoBox, Beyond, NotReadable, NoEvent}
use Rattle.answers.proofs.Answers.{first_here, first_later, last_test, left_refused}

-- no reason has the number of what is done
pub is_refused : (r : Refusal) → code r ≡ 0 → ⊥
is_refused KeyLength e = omega arith
is_refused TextLength e = omega arith
is_refused StartLength e = omega arith
is_refused TooMany e = omega arith
is_refused OutShort e = omega arith
is_refused FrameLength e = omega arith
is_refused Version e = omega arith
is_refused NoBox e = omega arith
is_refused Beyond e = omega arith
is_refused NotReadable e = omega arith
is_refused NoEvent e = omega arith

-- the reason of a number, from 1 on
abbrev reason : ℕ → Refusal
reason n = get_or (NoEvent ∷ KeyLength ∷ TextLength ∷ StartLength ∷ TooMany ∷ OutShort ∷ FrameLength ∷ Version ∷ NoBox ∷ Beyond ∷ NotReadable ∷ []) n NoEvent

reason_code : (r : Refusal) → reason (code r) ≡ r
reason_code KeyLength = refl
reason_code TextLength = refl
reason_code StartLength = refl
reason_code TooMany = refl
reason_code OutShort = refl
reason_code FrameLength = refl
reason_code Version = refl
reason_code NoBox = refl
reason_code Beyond = refl
reason_code NotReadable = refl
reason_code NoEvent = refl

-- two reasons of one number are the same
pub same_reason : (r s : Refusal) → code r ≡ code s → r ≡ s
same_reason r s e = sym (reason_code r) ∙ ap reason e ∙ reason_code s

-- two answers of one number with one value are the same
pub same_answer : {A : Type 0} {n : ℕ} (v : A) (r s : Result A Refusal) → number r ≡ n → number s ≡ n → IfOk r (λ x. x ≡ v) → IfOk s (λ x. x ≡ v) → r ≡ s
same_answer v (Ok x) (Ok y) e f p q = ap Ok (p ∙ sym q)
same_answer v (Ok x) (Err b) e f p q = absurd (is_refused b (f ∙ sym e))
same_answer v (Err a) (Ok y) e f p q = absurd (is_refused a (e ∙ sym f))
same_answer v (Err a) (Err b) e f p q = ap Err (same_reason a b (e ∙ sym f))

-- and so are two answers of one number that have no value
pub same_done : {n : ℕ} (r s : Result (Unit {0}) Refusal) → number r ≡ n → number s ≡ n → r ≡ s
same_done r s e f = same_answer (tt {0}) r s e f (any r) (any s)
  where
    any : (r : Result (Unit {0}) Refusal) → IfOk r (λ x. x ≡ tt {0})
    any (Ok x) = refl
    any (Err e) = tt

-- what is refused leaves a buffer as it is
pub kept : {n : ℕ} (r : Refusal) (answer out : List ℕ) → code r ≡ n → out ≡ left n answer out
kept r answer out e = sym (left_refused _ _ (λ z. is_refused r (e ∙ z)))

-- ---- in an order of tests: the first that refuses, one that is passed, and the last
pub here : {n : ℕ} (r : Refusal) (ns : List ℕ) → code r ≡ n → code r ≡ first_number (n ∷ ns)
here r ns e = e ∙ sym (first_here ns (λ z. is_refused r (e ∙ z)))

pub later : {m n : ℕ} (ns : List ℕ) → 0 ≡ n → m ≡ first_number ns → m ≡ first_number (n ∷ ns)
later ns e f = f ∙ sym (first_later ns (sym e))

pub at_last : {m n : ℕ} → m ≡ n → m ≡ first_number (n ∷ [])
at_last {n} e = e ∙ sym (last_test n)

-- an order that goes on: refused in its first part, and past it
pub early : (r : Refusal) (ns ms : List ℕ) → code r ≡ first_number ns → code r ≡ first_number (ns ++ ms)
unfolding first_number
early r [] ms e = absurd (is_refused r e)
early r (zero ∷ ns) ms e = later _ refl (early r ns ms (e ∙ first_later ns refl))
early r (suc n ∷ ns) ms e = e ∙ first_here ns (λ z. omega arith) ∙ sym (first_here (ns ++ ms) (λ z. omega arith))

pub late : {m : ℕ} (ns ms : List ℕ) → 0 ≡ first_number ns → m ≡ first_number ms → m ≡ first_number (ns ++ ms)
unfolding first_number
late [] ms e f = f
late (zero ∷ ns) ms e f = later _ refl (late ns ms (e ∙ first_later ns refl) f)
late (suc n ∷ ns) ms e f = absurd (omega (arith, first_here {n = suc n} ns (λ z. omega arith)))

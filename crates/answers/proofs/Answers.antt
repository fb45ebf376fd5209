-- What a number tells: of the tests of its order, of a field, and of a buffer.
-- Assumes nothing.
use mathlib.Core.Path.{◌≡◌, refl, sym, ap, ap₂, ◌∙◌}
use mathlib.Core.Bool.{Bool, true, false, cond, not}
use mathlib.Core.List.{List, [], ◌∷◌, ◌++◌}
use Prim.Native.Nat.{ℕ, zero, suc, ◌+◌, ◌≤◌, ◌<◌}
use native.Mathlib.Nat.{zero-add}
use native.Mathlib.Numerals.{add-one}
use native.Mathlib.Omega.{arith}
use borrow.Author.Tests.{lt-ltb, le-ltb, eq-eqb, ne_eqb}
use lib.Dec.{eqb}
use lib.ListN.{length, drop, get_or, set}
use lib.Seq.{paste, paste-suc, take_all, drop_at}
use Rattle.answers.specs.Answers.{◌when◌, on_done, first_number, front, left, single_number, room_number}

-- ---- fields
pub done : {A : Type 0} {n : ℕ} (value else : A) → n ≡ 0 → on_done n value else ≡ value
unfolding on_done
done value else e = simp (eq-eqb _ _ e)

pub refused : {A : Type 0} {n : ℕ} (value else : A) → (n ≡ 0 → ⊥) → on_done n value else ≡ else
unfolding on_done
refused value else h = simp (ne_eqb _ _ h)

-- ---- orders of tests
pub first_here : {n : ℕ} (ns : List ℕ) → (n ≡ 0 → ⊥) → first_number (n ∷ ns) ≡ n
unfolding first_number
first_here ns h = refused _ _ h

pub first_later : {n : ℕ} (ns : List ℕ) → n ≡ 0 → first_number (n ∷ ns) ≡ first_number ns
unfolding first_number
first_later ns e = done _ _ e

pub passed : (n : ℕ) (ns : List ℕ) → first_number (n ∷ ns) ≡ 0 → (n ≡ 0) × (first_number ns ≡ 0)
passed zero ns e = (refl, rw (first_later ns refl) at e)
passed (suc n) ns e = absurd (omega (arith, first_here {n = suc n} ns (λ z. omega arith)))

pub not_held : (n : ℕ) (b : Bool) → (suc n) when b ≡ 0 → b ≡ false
unfolding ◌when◌
not_held n true e = absurd (omega arith)
not_held n false e = refl

-- a test by `not` that is passed
pub holds : (n : ℕ) (b : Bool) → (suc n) when not b ≡ 0 → b ≡ true
unfolding ◌when◌
holds n true e = refl
holds n false e = absurd (omega arith)

-- ---- buffers
pub left_done : {n : ℕ} (answer out : List ℕ) → n ≡ 0 → left n answer out ≡ front answer out
unfolding left
left_done answer out e = done _ _ e

pub left_refused : {n : ℕ} (answer out : List ℕ) → (n ≡ 0 → ⊥) → left n answer out ≡ out
unfolding left
left_refused answer out h = refused _ _ h

-- the bytes past the answer are kept, whatever the number
pub left_past : (number : ℕ) (answer out : List ℕ) (n : ℕ) → length answer ≡ n → drop n (left number answer out) ≡ drop n out
unfolding left on_done front
left_past number answer out n e = by (eqb number 0)
  where
    by : (b : Bool) → drop n (cond b (answer ++ drop (length answer) out) out) ≡ drop n out
    by true = drop_at answer _ n e ∙ ap (λ (k : ℕ). drop k out) e
    by false = refl

-- an answer that is pasted byte by byte
pub next_pasted : (answer out : List ℕ) (i : ℕ) → i < length out → i < length answer → set (paste out 0 answer i) i (get_or answer i 0) ≡ paste out 0 answer (i + 1)
next_pasted answer out i h l =
    ap (λ (n : ℕ). set (paste out 0 answer i) n (get_or answer i 0)) (sym (zero-add i)) ∙ rw add-one (paste-suc out 0 answer i 0 (omega arith) l)

-- an answer that is pasted whole from the first byte on
pub pasted : (answer out : List ℕ) → paste out 0 answer (length answer) ≡ front answer out
unfolding front
pasted answer out = ap₂ (λ (a : List ℕ) (n : ℕ). a ++ drop n out) (take_all (length answer) answer (omega arith)) (zero-add (length answer))

-- ---- a single block
pub single_is : (n : ℕ) → n ≡ 16 → single_number n ≡ 0
unfolding ◌when◌
single_is n e = simp (eq-eqb _ _ e)

pub single_not : (n : ℕ) → (n ≡ 16 → ⊥) → single_number n ≡ 2
unfolding ◌when◌
single_not n h = simp (ne_eqb _ _ h)

-- ---- the last test
pub last_test : (n : ℕ) → first_number (n ∷ []) ≡ n
unfolding first_number
last_test zero = first_later [] refl
last_test (suc n) = first_here [] (λ z. omega arith)

pub short : (out answer : ℕ) → out < answer → room_number out answer ≡ 5
unfolding ◌when◌
short out answer h = simp (lt-ltb _ _ h)

pub roomy : (out answer : ℕ) → answer ≤ out → room_number out answer ≡ 0
unfolding ◌when◌
roomy out answer h = simp (le-ltb _ _ h)

-- an answer that is put where an order has come to its last test, for the room of that many bytes
pub answered : {number : ℕ} (answer out : List ℕ) {bytes last : List ℕ} {size r : ℕ} → number ≡ room_number (length out) size
    → bytes ≡ answer → length bytes ≡ size → r ≡ room_number (length out) (length bytes) → last ≡ left (room_number (length out) (length bytes)) bytes out
    → (r ≡ number) × (last ≡ left number answer out)
answered answer out {bytes} order same long e f =
    let room = ap (room_number (length out)) long ∙ sym order in
    (e ∙ room, f ∙ ap₂ (λ (n : ℕ) (b : List ℕ). left n b out) room same)

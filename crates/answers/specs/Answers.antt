-- What an operation answers: a number by its order of tests, and what it leaves in a lent buffer.
use Rattle.std.specs.Prelude.{ℕ, Bool, cond, not, List, [], ◌∷◌, ◌++◌, eqb, ltb, length, drop}

-- a test: its number where it holds, and 0 where it does not
infix 68 ◌when◌
unfoldable pub ◌when◌ : ℕ → Bool → ℕ
◌when◌ number holds = cond holds number 0

-- a field of an answer: its value with number 0, and what a refusal has with any other
unfoldable pub on_done : {A : Type 0} → ℕ → A → A → A
on_done number value refused = cond (eqb number 0) value refused

-- an order of tests: the first of the numbers that is not 0, and 0 where each is
unfoldable pub first_number : List ℕ → ℕ
first_number [] = 0
first_number (n ∷ ns) = on_done n (first_number ns) n

-- the answer over the first bytes of a buffer; those past it keep their old contents
unfoldable pub front : List ℕ → List ℕ → List ℕ
front answer out = answer ++ drop (length answer) out

-- what an operation leaves in its output buffer: its answer in front, or, where it refuses, every byte as it was
unfoldable pub left : ℕ → List ℕ → List ℕ → List ℕ
left number answer out = on_done number (front answer out) out

-- the test of a single block by its bytes: 2 where it has not exactly sixteen
abbrev pub single_number : ℕ → ℕ
single_number bytes = 2 when not (eqb bytes 16)

-- the test of a buffer for an answer, by the bytes that they have: 5 where the buffer is shorter
abbrev pub room_number : ℕ → ℕ → ℕ
room_number out answer = 5 when ltb out answer

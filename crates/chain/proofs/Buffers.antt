-- A buffer whose first blocks are written is what the definitions leave.
-- Assumes nothing.
use mathlib.Core.Path.{◌≡◌, sym, ap, ap₂, ◌∙◌}
use mathlib.Core.List.{List, ◌++◌}
use Prim.Native.Nat.{ℕ, ◌*◌, ◌≤◌}
use lib.ListN.{length, drop, take-append-drop}
use lib.Seq.{length-take-le}
use Rattle.answers.specs.Answers.{front}
use Rattle.words.specs.Filled.{Filled}

pub filled_all : (was out : List ℕ) (n : ℕ) (done : List ℕ) → Filled was out n done → n * 16 ≤ length out → out ≡ front done was
unfolding front
filled_all was out n done f room =
    let size : n * 16 ≡ length done = sym (length-take-le (n * 16) out room) ∙ ap length f.written in
    sym (take-append-drop (n * 16) out)
    ∙ ap₂ (λ (x y : List ℕ). x ++ y) f.written f.kept
    ∙ ap (λ (m : ℕ). done ++ drop m was) size

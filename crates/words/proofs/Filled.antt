-- A buffer filled from the front, a block a turn.
-- Assumes nothing.
use mathlib.Core.Path.{◌≡◌, refl, sym, ap, ap₂, ◌∙◌}
use mathlib.Core.List.{List, [], ◌++◌}
use Prim.Native.Nat.{ℕ, ◌+◌, ◌*◌, ◌≤◌}
use native.Mathlib.Omega.{arith}
use lib.ListN.{length, take, drop}
use lib.Seq.{drop-drop, take_all, paste, take-paste, drop-paste, length-paste}
use Rattle.words.specs.Blocks.{put_at}
use Rattle.words.specs.Filled.{Filled}
use Rattle.words.proofs.Places.{put_there}

pub filled_none : (out : List ℕ) → Filled out out 0 []
filled_none out = record { written = refl; kept = refl; size = refl }

pub filled_more : (was out : List ℕ) (i : ℕ) (done t : List ℕ) → Filled was out i done → length t ≡ 16 → i * 16 + 16 ≤ length out → Filled was (put_at out (i * 16) t) (i + 1) (done ++ t)
filled_more was out i done t f h room =
    let k = i * 16 in
    let next : (i + 1) * 16 ≡ i * 16 + 16 = omega arith in
    rw (← (put_there out (i * 16) t room))
    (record {
      written = ap (λ (n : ℕ). take n (paste out k t 16)) next ∙ take-paste out k t 16 (omega arith) (omega arith)
          ∙ ap₂ (λ (x y : List ℕ). x ++ y) f.written (take_all 16 t (omega arith));
      kept = ap (λ (n : ℕ). drop n (paste out k t 16)) next ∙ drop-paste out k t 16 (omega arith) (omega arith)
          ∙ sym (drop-drop 16 k out) ∙ ap (drop 16) f.kept ∙ drop-drop 16 k was ∙ ap (λ (n : ℕ). drop n was) (sym next);
      size = length-paste out k t 16 room (omega arith) ∙ f.size;
    })

-- `serpent::expand_key` meets its contract: the mark goes behind the key where there is room. Assumes nothing.
use mathlib.Core.Path.{ap, ◌∙◌}
use mathlib.Core.List.{List, ◌++◌}
use Prim.Native.Nat.{ℕ}
use native.Mathlib.Omega.{arith}
use lib.ListN.{length, drop, set, replicate}
use Rattle.serpent.proofs.Padding.{padded_short, padded_full}
use Rattle.serpent.proofs.expand_key.Goals as goal

pub returns-then-source-lt32 : goal.returns-then-source-lt32
returns-then-source-lt32 c =
    let s = c.args.source.now in
    ap (λ (l : List ℕ). set (l ++ drop (length s) (replicate 32 0)) (length s) 1) c.copy_from_slice.ensures.after ∙ padded_short s (omega arith)

pub returns-else-source-lt32 : goal.returns-else-source-lt32
returns-else-source-lt32 c =
    let s = c.args.source.now in
    ap (λ (l : List ℕ). l ++ drop (length s) (replicate 32 0)) c.copy_from_slice.ensures.after ∙ padded_full s (omega arith)

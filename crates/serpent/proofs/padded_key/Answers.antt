-- `serpent::padded_key` meets its contract. Assumes nothing.
use mathlib.Core.Path.{ap, ◌∙◌}
use Prim.Native.Nat.{ℕ}
use lib.ListN.{take}
use Rattle.serpent.specs.Schedule.{padded}
use Rattle.serpent.proofs.Padding.{padded_cut}
use Rattle.serpent.proofs.padded_key.Goals as goal

pub returns : goal.returns
returns c =
    let s = c.args.source.now in
    c.expand_key.ensures ∙ ap (λ (n : ℕ). padded (take n s)) c.min.ensures ∙ padded_cut s

-- `rounds::decrypt_words` meets its contract: what is left to do gives what deciphering gives. Assumes nothing.
use mathlib.Core.Path.{◌≡◌, ◌∙◌}
use Prim.Native.Nat.{◌+◌, ◌-◌}
use native.Mathlib.Omega.{arith}
use Rattle.serpent.specs.Block.{unrounds}
use Rattle.fast.proofs.Groups.{unturn}
use Rattle.fast.proofs.rounds.decrypt_words.Goals as goal

pub loop-t-preserved : goal.loop-t-preserved
loop-t-preserved c =
    let at = c.loop-t in
    let e : at.t - 1 + 1 ≡ at.t = omega arith in
    let turned = unturn _ _ _ _ (at.t - 1) (omega arith) c.uneighth-y.ensures c.unseven-z.ensures in
    (omega arith, rw e at turned ∙ at.invariant.1)

pub returns : goal.returns
unfolding unrounds
returns c =
    let e : c.loop-t.t ≡ 0 = omega arith in
    rw e at c.loop-t.invariant.1

-- `serpent::make_round_keys` meets its contract: after t turns the first 8t round keys stand, four words each. Assumes nothing.
use mathlib.Core.Path.{sym, refl, ◌∙◌}
use native.Mathlib.Omega.{arith}
use lib.Seq.{take_all}
use Rattle.serpent.specs.Schedule.{round_keys}
use Rattle.serpent.proofs.Keys.{up_to}
use borrow.Author.Rules.{rules}
use Rattle.serpent.proofs.make_round_keys.Goals as goal

pub loop-t-init : goal.loop-t-init
unfolding round_keys
loop-t-init c = (search rules, record { size = refl; done = refl })

pub put_eight-requires : goal.put_eight-requires
put_eight-requires c = (omega arith, c.loop-t.invariant.1)

pub loop-t-preserved : goal.loop-t-preserved
loop-t-preserved c = (omega arith, c.put_eight.ensures)

pub put_round_key-requires : goal.put_round_key-requires
put_round_key-requires c = (search rules, refl, up_to (omega arith) c.loop-t.invariant.1)

pub returns : goal.returns
returns c =
    let keys = c.put_round_key.ensures in
    sym (take_all 132 _ (omega (arith, keys.size))) ∙ keys.done

-- `serpent::put_eight` meets its contract: eight round keys more, each by the box of its place. Assumes nothing.
use native.Mathlib.Omega.{arith}
use Rattle.serpent.proofs.Keys.{up_to}
use Rattle.serpent.proofs.put_eight.Goals as goal

pub put_round_key-requires : goal.put_round_key-requires
put_round_key-requires c = (omega arith, omega arith, up_to (omega arith) c.requires.1)

pub put_round_key-requires-2 : goal.put_round_key-requires-2
put_round_key-requires-2 c = (omega arith, omega arith, up_to (omega arith) c.put_round_key.ensures)

pub put_round_key-requires-3 : goal.put_round_key-requires-3
put_round_key-requires-3 c = (omega arith, omega arith, up_to (omega arith) c.put_round_key-2.ensures)

pub put_round_key-requires-4 : goal.put_round_key-requires-4
put_round_key-requires-4 c = (omega arith, omega arith, up_to (omega arith) c.put_round_key-3.ensures)

pub put_round_key-requires-5 : goal.put_round_key-requires-5
put_round_key-requires-5 c = (omega arith, omega arith, up_to (omega arith) c.put_round_key-4.ensures)

pub put_round_key-requires-6 : goal.put_round_key-requires-6
put_round_key-requires-6 c = (omega arith, omega arith, up_to (omega arith) c.put_round_key-5.ensures)

pub put_round_key-requires-7 : goal.put_round_key-requires-7
put_round_key-requires-7 c = (omega arith, omega arith, up_to (omega arith) c.put_round_key-6.ensures)

pub put_round_key-requires-8 : goal.put_round_key-requires-8
put_round_key-requires-8 c = (omega arith, omega arith, up_to (omega arith) c.put_round_key-7.ensures)

pub returns : goal.returns
returns c = up_to (omega arith) c.put_round_key-8.ensures

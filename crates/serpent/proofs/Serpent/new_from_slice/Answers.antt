-- `Serpent::new_from_slice` meets its contract: padding, prekeys and round keys, one after the other. Assumes nothing.
use mathlib.Core.Path.{sym}
use Rattle.serpent.specs.Schedule.{schedule}
use Rattle.serpent.proofs.KeyTest.{accepted}
use Rattle.serpent.proofs.Serpent.new_from_slice.Goals as goal

pub expand_key-requires : goal.expand_key-requires
expand_key-requires c = (accepted _ (sym c.in_ok-check_key.ensures)).most

pub returns-clause-round_keys : goal.returns-clause-round_keys
unfolding schedule
returns-clause-round_keys c = simp (c.make_round_keys-round_keys.ensures, c.make_prekeys-prekeys.ensures, c.expand_key.ensures)

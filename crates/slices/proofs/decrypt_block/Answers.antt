-- `slices::decrypt_block` meets its contract: what is written is what the call writes. Assumes nothing.
use Rattle.std.proofs.Common.{rules}
use Rattle.std.proofs.lemmas.Slice.{overwrites}
use Rattle.slices.proofs.decrypt_block.Goals as goal

pub returns-clause-written : goal.returns-clause-written
returns-clause-written c = search (rules, overwrites)

-- `chain::under_round_keys` meets its contract: a refusal writes nothing, and past the tests there is room for every block. Assumes nothing.
use mathlib.Core.Path.{sym, ◌∙◌}
use Rattle.answers.proofs.Answers.{left_done}
use Rattle.answers.proofs.Numbers.{kept}
use Rattle.chain.proofs.Numbers.{room_blocks}
use Rattle.chain.proofs.under_round_keys.Goals as goal

pub returns-in_err-check_blocks-clause-written : goal.returns-in_err-check_blocks-clause-written
returns-in_err-check_blocks-clause-written g c = kept _ _ _ c.in_err-check_blocks.ensures

pub chain-requires : goal.chain-requires
chain-requires g c = room_blocks _ _ (sym c.in_ok-check_blocks.ensures)

pub returns-clause-written : goal.returns-clause-written
returns-clause-written g c = c.chain.ensures ∙ sym (left_done _ _ (sym c.in_ok-check_blocks.ensures))

-- `timed_new_from_slice` meets its contract: the round keys of a key that is taken, and zeros where it is refused. Assumes nothing.
use mathlib.Core.Path.{sym, ◌∙◌}
use Rattle.answers.proofs.Answers.{done, refused}
use Rattle.answers.proofs.Numbers.{is_refused}
use Rattle.timed.proofs.timed_new_from_slice.Goals as goal

pub returns-in-Ok-clause-written : goal.returns-in-Ok-clause-written
returns-in-Ok-clause-written c =
    let taken = rw c.in-Ok.is at c.new_from_slice-set_up.ensures in
    taken.round_keys ∙ sym (done _ _ (sym taken.number))

pub returns-in-Err-clause-written : goal.returns-in-Err-clause-written
returns-in-Err-clause-written c =
    let told = rw c.in-Err.is at c.new_from_slice-set_up.ensures in
    sym (refused _ _ (λ z. is_refused _ (told.number ∙ z)))

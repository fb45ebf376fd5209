-- `barkmottle::events::read` meets its contract: the event of a refusal stands in for one that is not readable. Assumes nothing.
use mathlib.Core.Path.{sym, ◌∙◌}
use Rattle.answers.proofs.Answers.{done, refused}
use Rattle.answers.proofs.Numbers.{is_refused}
use Rattle.event.specs.Read.{reading}
use Rattle.barkmottle.proofs.events.read.Goals as goal

pub returns-in-Ok : goal.returns-in-Ok
unfolding reading
returns-in-Ok c = c.in-Ok.ensures.event ∙ sym (done _ _ (sym c.in-Ok.ensures.number))

pub returns-in-Err : goal.returns-in-Err
unfolding reading
returns-in-Err c = c.no_event.ensures ∙ sym (refused _ _ (λ z. is_refused _ (c.in-Err.ensures.number ∙ z)))

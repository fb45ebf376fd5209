-- `barkmottle::searches::find` meets its contract: where nothing is found there is no event. Assumes nothing.
use mathlib.Core.Path.{sym, ap, ◌∙◌}
use Rattle.search.specs.Search.{Searched}
use Rattle.search.proofs.Telling.{missed_event}
use Rattle.barkmottle.proofs.searches.find.Goals as goal

pub returns-in-Err : goal.returns-in-Err
returns-in-Err c = c.no_event.ensures ∙ sym (missed_event _) ∙ ap (λ (answer : Searched). answer.event) c.in-Err.ensures.answer

-- `barkmottle_search_place` meets its contract: where nothing is found there is no place. Assumes nothing.
use mathlib.Core.Path.{sym, ap, ◌∙◌}
use Rattle.search.specs.Search.{Searched}
use Rattle.search.proofs.Telling.{missed_place}
use Rattle.barkmottle.proofs.searches.barkmottle_search_place.Goals as goal

pub returns-in-Err : goal.returns-in-Err
returns-in-Err c = sym (missed_place _) ∙ ap (λ (answer : Searched). answer.place) c.in-Err.ensures.answer

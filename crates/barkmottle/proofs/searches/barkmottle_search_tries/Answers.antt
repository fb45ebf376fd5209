-- `barkmottle_search_tries` meets its contract: the field of an equal answer. Assumes nothing.
use mathlib.Core.Path.{ap}
use Rattle.search.specs.Search.{Searched}
use Rattle.barkmottle.proofs.searches.barkmottle_search_tries.Goals as goal

pub returns-in-Ok : goal.returns-in-Ok
returns-in-Ok c = ap (λ (answer : Searched). answer.tries) c.in-Ok.ensures.answer

-- `barkmottle_read_event` meets its contract: the number of the call is its own. Assumes nothing.
use mathlib.Core.Path.{◌∙◌}
use Rattle.event.specs.Read.{reading}
use Rattle.barkmottle.proofs.events.barkmottle_read_event.Goals as goal

pub returns : goal.returns
unfolding reading
returns c = c.number_of.ensures ∙ c.read_event.ensures.number

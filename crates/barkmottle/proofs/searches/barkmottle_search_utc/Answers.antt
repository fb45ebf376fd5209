-- `barkmottle_search_utc` meets its contract: the field of an equal event. Assumes nothing.
use Rattle.std.proofs.Common.{◌≡◌, ap, arith, to_z-of_z}
use Rattle.event.specs.declared.Event.{Event}
use Rattle.search.specs.Search.{search_answer}
use Rattle.barkmottle.proofs.searches.barkmottle_search_utc.Goals as goal

pub returns : goal.returns
returns c =
    let utc : c.find.result.utc.0 ≡ (search_answer c.args.key.now c.args.frame.now c.args.place).event.utc.0 =
    ap (λ (event : Event). event.utc.0) c.find.ensures in
    grind (arith, to_z-of_z)

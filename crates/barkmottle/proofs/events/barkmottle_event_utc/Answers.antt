-- `barkmottle_event_utc` meets its contract: the field of an equal event. Assumes nothing.
use Rattle.std.proofs.Common.{◌≡◌, ap, arith, to_z-of_z}
use Rattle.event.specs.declared.Event.{Event}
use Rattle.event.specs.Read.{reading}
use Rattle.barkmottle.proofs.events.barkmottle_event_utc.Goals as goal

pub returns : goal.returns
returns c =
    let utc : c.read.result.utc.0 ≡ (reading c.args.event.now).event.utc.0 =
    ap (λ (event : Event). event.utc.0) c.read.ensures in
    grind (arith, to_z-of_z)

-- `barkmottle_read_window` meets its contract: the promise of the call is its own. Assumes nothing.
use mathlib.Core.Path.{◌≡◌, ◌∙◌}
use lib.ListN.{length}
use Rattle.answers.specs.Numbers.{number}
use Rattle.frame.specs.Window.{window_number}
use Rattle.barkmottle.proofs.log.barkmottle_read_window.Goals as goal

pub returns : goal.returns
returns c =
    let call = c.read_window in
    let a = c.args in
    let told : number call.result ≡ window_number (length a.key.now) a.frame.now a.place a.count (length a.out.now) = call.ensures.number in
    record { number = c.number_of.ensures ∙ told; written = call.ensures.written }

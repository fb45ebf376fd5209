-- `timed_encrypt_block` meets its contract: the promise of the call is its own. Assumes nothing.
use mathlib.Core.Path.{◌≡◌}
use Rattle.serpent.specs.Block.{encrypt_bytes}
use Rattle.timed.proofs.timed_encrypt_block.Goals as goal

pub returns : goal.returns
returns c =
    let call = c.encrypt_block in
    let a = c.args in
    let made : call.result ≡ encrypt_bytes a.round_keys.now a.block.now = call.ensures in
    made

-- `chain::encrypt_link` meets its contract: the XOR, then the cipher. Assumes nothing.
use mathlib.Core.Path.{ap, ◌∙◌}
use Rattle.serpent.specs.Block.{encrypt_bytes}
use Rattle.chain.proofs.encrypt_link.Goals as goal

pub returns : goal.returns
returns c =
    c.encrypt_block.ensures ∙ ap (encrypt_bytes c.args.round_keys.now) c.xor_block.ensures

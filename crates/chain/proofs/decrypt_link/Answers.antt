-- `chain::decrypt_link` meets its contract: the cipher, then the XOR. Assumes nothing.
use mathlib.Core.Path.{ap, ◌∙◌}
use mathlib.Core.List.{List}
use Prim.Native.Nat.{ℕ}
use Rattle.chain.specs.Chain.{xor}
use Rattle.chain.proofs.decrypt_link.Goals as goal

pub returns : goal.returns
returns c =
    c.xor_block.ensures ∙ ap (λ (t : List ℕ). xor t c.args.before) c.decrypt_block.ensures

use mathlib.Core.Path.{◌≡◌}
use Rattle.serpent.specs.Block.{encrypt_bytes}
use Rattle.chain.specs.Chain.{last_or, blocks, encipher, join}
use Rattle.words.specs.Filled.{Filled}
use Rattle.chain.proofs.EncipheringWay.chain.Given as goal

abbrev pub invariant-loop-i : goal.invariant-loop-i
invariant-loop-i l =
    let made = encipher (encrypt_bytes l.round_keys) l.initial.before (blocks l.i l.text) in
    (l.before ≡ last_or l.initial.before made) × Filled l.initial.out l.out l.i (join made)

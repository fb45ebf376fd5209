use mathlib.Core.Path.{◌≡◌}
use Prim.Native.Nat.{◌≤◌}
use Rattle.serpent.specs.Block.{unrounds}
use Rattle.serpent.proofs.Serpent.decrypt_block.Given as goal

abbrev pub invariant-loop-i : goal.invariant-loop-i
invariant-loop-i l = (l.i ≤ 31) × (unrounds l.round_keys l.i l.b ≡ unrounds l.round_keys 31 l.initial.b)

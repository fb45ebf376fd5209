use mathlib.Core.Path.{◌≡◌}
use Prim.Native.Nat.{◌-◌, ◌≤◌}
use Rattle.serpent.specs.Block.{rounds}
use Rattle.serpent.proofs.Serpent.encrypt_block.Given as goal

abbrev pub invariant-loop-i : goal.invariant-loop-i
invariant-loop-i l = (l.i ≤ 31) × (l.b ≡ rounds l.round_keys l.i l.initial.b)

abbrev pub decreases-loop-i : goal.decreases-loop-i
decreases-loop-i l = 31 - l.i

use Prim.Native.Nat.{◌-◌, ◌*◌, ◌≤◌}
use Rattle.serpent.specs.Turns.{KeysUpTo}
use Rattle.serpent.proofs.make_round_keys.Given as goal

abbrev pub invariant-loop-t : goal.invariant-loop-t
invariant-loop-t l = (l.t ≤ 4) × KeysUpTo l.words l.k (8 * l.t)

abbrev pub decreases-loop-t : goal.decreases-loop-t
decreases-loop-t l = 4 - l.t

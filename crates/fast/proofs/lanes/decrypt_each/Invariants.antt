use Prim.Native.Nat.{◌*◌, ◌≤◌}
use Rattle.fast.proofs.Undoing.{Undoing}
use Rattle.fast.proofs.lanes.decrypt_each.Given as goal

abbrev pub invariant-loop-t : goal.invariant-loop-t
invariant-loop-t l = (l.t ≤ 3) × Undoing l.keys l.initial.w l.w (8 * l.t)

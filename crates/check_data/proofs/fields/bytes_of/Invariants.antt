-- The bytes so far lie within the room.
use Rattle.std.proofs.Common.{◌≤◌}
use Rattle.check_data.proofs.fields.bytes_of.Given as goal

abbrev pub invariant-loop-piece : goal.invariant-loop-piece
invariant-loop-piece l = l.size ≤ 4224

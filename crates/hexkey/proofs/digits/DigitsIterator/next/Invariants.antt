-- What was passed over spells no digit.
use Rattle.std.proofs.Common.{◌≡◌, length}
use Rattle.hexkey.specs.Key.{digits}
use Rattle.hexkey.proofs.digits.DigitsIterator.next.Given as goal

abbrev pub invariant-loop-first : goal.invariant-loop-first
invariant-loop-first l = digits l.self.0.now ≡ digits l.initial.self.0.now

abbrev pub decreases-loop-first : goal.decreases-loop-first
decreases-loop-first l = length l.self.0.now

use mathlib.Core.Path.{◌≡◌}
use Prim.Native.Nat.{◌≤◌}
use Rattle.serpent.specs.Block.{decrypt_words}
use Rattle.fast.proofs.Groups.{left}
use Rattle.fast.proofs.rounds.decrypt_words.Given as goal

abbrev pub invariant-loop-t : goal.invariant-loop-t
invariant-loop-t l = (l.t ≤ 4) × (left l.keys l.t l.x ≡ decrypt_words l.keys l.initial.x)

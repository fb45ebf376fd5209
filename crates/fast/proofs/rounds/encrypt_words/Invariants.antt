use mathlib.Core.Path.{◌≡◌}
use Rattle.fast.proofs.Groups.{made}
use Rattle.fast.proofs.rounds.encrypt_words.Given as goal

abbrev pub invariant-loop-t : goal.invariant-loop-t
invariant-loop-t l = l.x ≡ made l.keys l.t l.initial.x

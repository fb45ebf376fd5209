use mathlib.Core.Path.{◌≡◌}
use mathlib.Core.List.{◌++◌}
use Prim.Native.Nat.{◌+◌, ◌*◌}
use lib.ListN.{length, take}
use Rattle.serpent.specs.Schedule.{round_keys}
use Rattle.serpent.proofs.put_round_key.Given as goal

abbrev pub invariant-loop-j : goal.invariant-loop-j
invariant-loop-j l = (length l.k ≡ 132) × (take (4 * l.i + l.j) l.k ≡ round_keys l.words l.i ++ take l.j l.word-items)

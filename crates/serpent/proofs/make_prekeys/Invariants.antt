use mathlib.Core.Path.{◌≡◌}
use Prim.Native.Nat.{◌+◌, ◌-◌, ◌≤◌}
use lib.ListN.{length, take}
use Rattle.words.specs.Bytes.{words_of}
use Rattle.serpent.specs.Schedule.{prekeys}
use Rattle.serpent.proofs.make_prekeys.Given as goal

abbrev pub invariant-loop-i : goal.invariant-loop-i
invariant-loop-i l = (length l.words ≡ 140) × (take l.i l.words ≡ words_of l.fn.key l.i)

abbrev pub invariant-loop-i-2 : goal.invariant-loop-i-2
invariant-loop-i-2 l = (l.i ≤ 132) × (length l.words ≡ 140) × (take (l.i + 8) l.words ≡ prekeys (take 8 l.initial.words) l.i)

abbrev pub decreases-loop-i-2 : goal.decreases-loop-i-2
decreases-loop-i-2 l = 132 - l.i

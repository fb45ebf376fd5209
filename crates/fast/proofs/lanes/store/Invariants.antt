use Rattle.words.specs.Filled.{Filled}
use Rattle.fast.specs.Lanes.{lane_bytes}
use Rattle.fast.proofs.lanes.store.Given as goal

abbrev pub invariant-loop-j : goal.invariant-loop-j
invariant-loop-j l = Filled l.initial.out l.out l.j (lane_bytes l.w l.j)

use Rattle.fast.specs.Lanes.{Loaded}
use Rattle.fast.proofs.lanes.load.Given as goal

abbrev pub invariant-loop-j : goal.invariant-loop-j
invariant-loop-j l = Loaded l.cipher l.w l.j

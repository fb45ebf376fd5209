-- Each turn puts the next byte, and the loop ends where no byte is left or no place.
use Rattle.std.proofs.Common.{arith}
use Rattle.hexkey.proofs.Filling.{start, more, ended, full}
use Rattle.hexkey.proofs.fill.Goals as goal

pub loop-place-init : goal.loop-place-init
loop-place-init c = start _ _

pub loop-place-preserved : goal.loop-place-preserved
loop-place-preserved c = more _ _ c.loop-place.invariant (omega arith) c.in-Some.ensures.steps

pub returns-in_default : goal.returns-in_default
returns-in_default c = ended _ _ c.loop-place.invariant c.in_default.ensures.steps.0

pub returns-after-loop-place : goal.returns-after-loop-place
returns-after-loop-place c = full _ _ c.loop-place.invariant (omega arith) c.requires

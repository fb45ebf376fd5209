use Rattle.hexkey.specs.Key.{key_bytes}
use Rattle.hexkey.proofs.Filling.{Filled}
use Rattle.hexkey.proofs.fill.Given as goal

abbrev pub invariant-loop-place : goal.invariant-loop-place
invariant-loop-place l =
    Filled (key_bytes l.text) l.initial.place-items l.place-index (key_bytes l.bytes.0.0.now) l.place-items

use Rattle.serpent.specs.Block.{decrypt_bytes}
use Rattle.chain.specs.Turns.{Among}
use Rattle.chain.proofs.put_sixteen.Given as goal

abbrev pub invariant-loop-n : goal.invariant-loop-n
invariant-loop-n l = Among (decrypt_bytes l.round_keys) l.sixteen l.s l.initial.out l.initial.before l.out l.before l.n

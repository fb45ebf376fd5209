-- `Serpent::check_key` meets its contract: its two tests are those of a refused key, and past both the key is accepted. Assumes nothing.
use mathlib.Core.Path.{sym}
use mathlib.Core.Logic.{inl, inr}
use native.Mathlib.Omega.{arith}
use borrow.Author.Tests.{ltb-false}
use Rattle.serpent.proofs.KeyTest.{accepts, refuses}
use Rattle.serpent.proofs.Serpent.check_key.Goals as goal
use Rattle.serpent.proofs.Serpent.check_key.Goals.{then-length-lt-LEAST_KEY-via-then-length-lt-LEAST_KEY, then-length-lt-LEAST_KEY-via-else-length-lt-LEAST_KEY+then-length-gt-GREATEST_KEY}

pub returns-then-length-lt-LEAST_KEY : goal.returns-then-length-lt-LEAST_KEY
returns-then-length-lt-LEAST_KEY c =
    sym (refuses c.args.length (elim c.then-length-lt-LEAST_KEY.branch [
      | then-length-lt-LEAST_KEY-via-then-length-lt-LEAST_KEY w ↦ inl (omega arith)
      | then-length-lt-LEAST_KEY-via-else-length-lt-LEAST_KEY+then-length-gt-GREATEST_KEY w ↦ inr (omega arith)
    ]))

pub returns : goal.returns
returns c = sym (accepts c.args.length (record { least = omega arith; most = omega (arith, ltb-false) }))

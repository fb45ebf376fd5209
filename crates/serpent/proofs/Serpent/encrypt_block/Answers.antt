-- `Serpent::encrypt_block` meets its contract: after i turns the words have gone through rounds 0 to i - 1, and the last round stands behind the loop. Assumes nothing.
use mathlib.Core.Path.{◌≡◌, refl}
use native.Mathlib.Numerals.{add-one}
use native.Mathlib.Omega.{arith}
use Rattle.serpent.specs.Block.{round, rounds, encrypt_words, encrypt_bytes}
use borrow.Author.Rules.{rules}
use Rattle.serpent.proofs.Serpent.encrypt_block.Goals as goal

pub loop-i-init : goal.loop-i-init
unfolding rounds
loop-i-init c = (search rules, refl)

pub loop-i-preserved : goal.loop-i-preserved
unfolding rounds round
loop-i-preserved c = (omega arith, rw add-one cc)

pub returns : goal.returns
unfolding encrypt_bytes encrypt_words
returns c =
    let e : c.loop-i.i ≡ 31 = omega arith in
    cc

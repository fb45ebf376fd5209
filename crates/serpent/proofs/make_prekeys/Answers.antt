-- `serpent::make_prekeys` meets its contract: the first loop reads the eight key words, and after i turns of the second i prekeys stand behind them. Assumes nothing.
use mathlib.Core.Path.{◌≡◌, refl, ap, ◌∙◌}
use mathlib.Core.List.{[]}
use Prim.Native.Nat.{◌/◌, ◌<◌}
use native.Mathlib.Omega.{arith}
use lib.ListN.{length, get_or, length-set}
use lib.Seq.{take_all}
use Rattle.words.specs.Sized.{list_of}
use Rattle.words.specs.Bytes.{word_at, words_of}
use Rattle.words.proofs.Chunks.{chunk_word}
use Rattle.words.proofs.Lists.{built}
use Rattle.serpent.specs.Schedule.{prekeys}
use Rattle.serpent.proofs.Keys.{prekeys_more}
use borrow.Author.Rules.{rules}
use Rattle.serpent.proofs.make_prekeys.Goals as goal

pub loop-i-init : goal.loop-i-init
unfolding words_of list_of
loop-i-init c = search rules

pub loop-i-preserved : goal.loop-i-preserved
unfolding words_of
loop-i-preserved c =
    let at = c.loop-i in
    let size : length c.args.key ≡ 32 = search rules in
    let there : at.i < length c.args.key / 4 = omega (arith, c.as_chunks.ensures.front_len, c.loop-i-test.true) in
    let word = c.from_le_bytes.ensures ∙ ap (λ cs. word_at (get_or cs at.i []) 0) c.as_chunks.ensures.front ∙ chunk_word _ _ c.args.key [] there in
    (simp length-set at.invariant.0, built _ _ _ _ (omega arith) at.invariant.1 word)

pub loop-i-2-init : goal.loop-i-2-init
unfolding prekeys
loop-i-2-init c = (search rules, search rules, refl)

pub loop-i-2-preserved : goal.loop-i-2-preserved
loop-i-2-preserved c =
    let at = c.loop-i-2 in
    (omega arith, simp length-set at.invariant.1, prekeys_more _ _ _ _ (omega arith) at.invariant.2 c.next_prekey.ensures)

pub returns : goal.returns
returns c =
    let read = c.loop-i in
    let made = c.loop-i-2 in
    let size : length c.args.key ≡ 32 = search rules in
    let e : read.i ≡ 8 = omega (arith, c.as_chunks.ensures.front_len) in
    let f : made.i ≡ 132 = omega arith in
    rw (f, take_all 140 made.words (omega arith), rw e at read.invariant.1) at made.invariant.2

-- `serpent::put_round_key` meets its contract: after j turns j words of the next round key stand behind those below it. Assumes nothing.
use Rattle.std.proofs.Common.{◌≡◌, ℕ, ◌<◌, length, ap, ◌∙◌, arith}
use native.Mathlib.Nat.{add-zero}
use mathlib.Core.List.{append-nil}
use lib.ListN.{length-set}
use Rattle.bitslice.specs.Boxes.{box, box_on}
use Rattle.serpent.specs.Schedule.{round_key}
use Rattle.serpent.proofs.Keys.{round_key_word, round_keys_more}
use Rattle.serpent.proofs.put_round_key.Goals as goal

pub loop-j-init : goal.loop-j-init
loop-j-init c = (c.requires.2.size, rw (add-zero, append-nil) c.requires.2.done)

pub loop-j-preserved : goal.loop-j-preserved
loop-j-preserved c =
    let size : length c.s_box-output.result ≡ 4 = c.s_box-output.type_inv.1.0.1 in
    let there : c.loop-j.j < 4 = omega (arith, c.loop-j-test.true) in
    let at = c.loop-j.invariant in
    (simp length-set at.0, round_key_word c.loop-j.k _ _ c.loop-j.j c.s_box-output.result (omega (arith, c.requires)) (omega arith) at.1)

pub returns : goal.returns
returns c =
    let a = c.args in
    let size : length c.s_box-output.result ≡ 4 = c.s_box-output.type_inv.1.0.1 in
    let all : c.loop-j.j ≡ 4 = omega arith in
    let key : c.s_box-output.result ≡ round_key a.words.now a.i =
    c.s_box-output.ensures ∙ ap (λ (n : ℕ). box_on (box n) c.four_words-s.result) c.requires.1 ∙ ap (box_on _) c.four_words-s.ensures in
    record { size = c.loop-j.invariant.0; done = round_keys_more _ _ a.i _ size (rw all at c.loop-j.invariant.1) key }

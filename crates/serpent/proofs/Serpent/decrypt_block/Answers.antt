-- `Serpent::decrypt_block` meets its contract: the rounds that are left to undo give what all 31 give of the words before the loop. Assumes nothing.
use mathlib.Core.Path.{◌≡◌, refl, ap, ◌∙◌}
use Prim.Native.Nat.{suc, ◌-◌}
use native.Mathlib.Omega.{arith}
use Rattle.bitslice.specs.Boxes.{box_inv_words}
use Rattle.serpent.specs.Block.{mix, unround, unrounds, decrypt_words, decrypt_bytes}
use Rattle.serpent.proofs.Serpent.decrypt_block.Goals as goal

pub loop-i-init : goal.loop-i-init
loop-i-init c = (omega arith, refl)

pub loop-i-preserved : goal.loop-i-preserved
unfolding unrounds unround
loop-i-preserved c =
    let at = c.loop-i in
    let keys = c.args.round_keys.now in
    let e : at.i ≡ suc (at.i - 1) = omega arith in
    let h = rw e at at.invariant.1 in
    let undone : c.mix_key-next.result ≡ unround keys (at.i - 1) at.b =
    c.mix_key-next.ensures ∙ ap (mix keys (at.i - 1)) (c.round_box_inv-xb.ensures ∙ ap (box_inv_words (at.i - 1)) c.linear_transform_inv-s.ensures) in
    (omega arith, ap (unrounds keys (at.i - 1)) undone ∙ h)

pub returns : goal.returns
unfolding decrypt_bytes decrypt_words unrounds
returns c =
    let at = c.loop-i in
    let e : at.i ≡ 0 = omega arith in
    let f : at.b ≡ _ = rw e at at.invariant.1 in
    cc

-- `Enciphering::chain` meets its contract: after i turns `before` is the last cipher block made, the start block before the first, and the first i cipher blocks stand in front of the buffer.
use Prim.Native.Nat.{ℕ, ◌/◌, ◌<◌}
use mathlib.Core.Path.{◌≡◌, refl, sym, ap, ap₂, ◌∙◌}
use mathlib.Core.List.{List, []}
use Rattle.std.proofs.Common.{arith, rules}
use lib.ListN.{length, get_or}
use lib.Seq.{get_or-take}
use Rattle.words.proofs.Chunks.{chunk_at}
use Rattle.serpent.specs.Block.{encrypt_bytes}
use Rattle.chain.specs.Chain.{xor, last_or, blocks, encipher, join}
use Rattle.chain.specs.Slices.{enciphered}
use Rattle.chain.proofs.Blocks.{block}
use Rattle.chain.proofs.Links.{next, last_next, encipher_more}
use Rattle.words.proofs.Filled.{filled_none, filled_more}
use Rattle.chain.proofs.Buffers.{filled_all}
use Rattle.chain.proofs.EncipheringWay.chain.Goals as goal

pub loop-i-init : goal.loop-i-init
unfolding last_or blocks join encipher
loop-i-init c = (refl, filled_none _)

pub loop-i-preserved : goal.loop-i-preserved
loop-i-preserved c =
    let a = c.args in
    let i = c.loop-i.i in
    let E = encrypt_bytes a.round_keys.now in
    let cipher = c.encrypt_link-cipher.result in
    let size : length cipher ≡ 16 = c.encrypt_link-cipher.type_inv.1.0.1 in
    let there : i < length a.text.now / 16 = search rules in
    let here : get_or c.as_chunks.result.0.now i [] ≡ block i a.text.now =
    ap (λ cs. get_or cs i []) c.as_chunks.ensures.front ∙ chunk_at 16 _ i a.text.now [] there in
    let same : cipher ≡ next E a.start i a.text.now =
    c.encrypt_link-cipher.ensures ∙ ap₂ (λ (x y : List ℕ). E (xor x y)) (search (rules, get_or-take, here)) c.loop-i.invariant.0 in (
      same ∙ sym (last_next E a.start i a.text.now),
      rw (c.put_block.ensures, encipher_more E a.start i a.text.now, ← same)
          (filled_more a.out.now c.loop-i.out i _ cipher c.loop-i.invariant.1 size (omega (arith, c.requires, c.loop-i.invariant.1.size))),
    )

pub returns : goal.returns
unfolding enciphered
returns c =
    let a = c.args in
    let all : c.loop-i.i ≡ length a.text.now / 16 = search rules in
    filled_all a.out.now c.loop-i.out (length a.text.now / 16) _ (rw all at c.loop-i.invariant.1) (omega (arith, c.requires, c.loop-i.invariant.1.size))

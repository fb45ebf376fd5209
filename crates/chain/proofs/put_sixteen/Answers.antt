-- `chain::put_sixteen` meets its contract: after n turns n texts more stand. Assumes nothing.
use Rattle.std.proofs.Common.{◌≡◌, ◌*◌, ◌<◌, [], length, take, drop, get_or, sym, ap, ◌∙◌, arith, rules}
use Rattle.words.proofs.Chunks.{chunk_at}
use Rattle.words.proofs.Places.{block_there}
use Rattle.serpent.specs.Block.{decrypt_bytes}
use Rattle.fast.proofs.Sixteen.{each_at}
use Rattle.chain.specs.Chain.{xor}
use Rattle.chain.proofs.Turns.{onward_then, onward_to, onward_one, among_sixteen}
use Rattle.chain.proofs.put_sixteen.Goals as goal

pub loop-n-preserved : goal.loop-n-preserved
loop-n-preserved c =
    let a = c.args in
    let n = c.loop-n.n in
    let bytes = a.sixteen.now in
    let D = decrypt_bytes a.round_keys.now in
    let all : length bytes ≡ 256 = search rules in
    let size : length c.decrypt_sixteen-deciphered.result ≡ 256 = search rules in
    let l : n < 16 = omega (arith, c.as_chunks-2.ensures.front_len, c.loop-n-test.true) in
    let cipher : get_or c.as_chunks-2.result.0.now n [] ≡ take 16 (drop (n * 16) bytes) =
    ap (λ cs. get_or cs n []) c.as_chunks-2.ensures.front ∙ chunk_at 16 _ n bytes [] (omega arith) in
    let text : get_or c.as_chunks.result.0.now n [] ≡ D (take 16 (drop (n * 16) bytes)) =
    ap (λ cs. get_or cs n []) c.as_chunks.ensures.front ∙ chunk_at 16 _ n c.decrypt_sixteen-deciphered.result [] (omega arith)
    ∙ ap (λ x. take 16 (drop (n * 16) x)) c.decrypt_sixteen-deciphered.ensures
    ∙ each_at a.round_keys.now bytes 16 n l ∙ ap D (sym (block_there bytes (n * 16) (omega arith))) in
    λ whole e h.
    let here = among_sixteen whole a.s n l e h in
    let put = c.xor_block-text.ensures ∙ ap (λ x. xor x c.loop-n.before) (text ∙ ap D here) in
    let more = onward_one D put (cipher ∙ here) c.put_block.ensures c.xor_block-text.type_inv.1.0.1 (omega (arith, c.requires, c.loop-n.auto.out)) in
    onward_to (omega arith) (onward_then (c.loop-n.invariant whole e h) more)

-- `Deciphering::chain` meets its contract: each loop goes on from where the one before it ended. Assumes nothing.
use Rattle.std.proofs.Common.{◌≡◌, ◌+◌, ◌*◌, ◌/◌, ◌<◌, ◌≤◌, [], length, take, drop, get_or, refl, sym, ap, ◌∙◌, arith, rules}
use lib.Seq.{drop-drop, get_or-take, get_or-drop}
use Rattle.words.proofs.Chunks.{chunk_at}
use Rattle.words.proofs.Filled.{filled_none}
use Rattle.serpent.specs.Block.{decrypt_bytes}
use Rattle.chain.specs.Chain.{xor, last_or, blocks, decipher, join}
use Rattle.chain.specs.Slices.{deciphered}
use Rattle.chain.specs.Turns.{At}
use Rattle.chain.proofs.Blocks.{block}
use Rattle.chain.proofs.Buffers.{filled_all}
use Rattle.chain.proofs.Turns.{onward_then, onward_to, onward_one}
use Rattle.chain.proofs.DecipheringWay.chain.Goals as goal

pub loop-s-preserved : goal.loop-s-preserved
loop-s-preserved c =
    let cipher = c.args.cipher.now in
    let s = c.loop-s.s in
    let there : s < length cipher / 256 = omega (arith, c.as_chunks.ensures.front_len, c.loop-s-test.true) in
    let sixteen : get_or c.as_chunks.result.0.now s [] ≡ take 256 (drop (s * 256) cipher) =
    ap (λ cs. get_or cs s []) c.as_chunks.ensures.front ∙ chunk_at 256 _ s cipher [] there in
    onward_to (omega arith) (onward_then c.loop-s.invariant (c.put_sixteen-next.ensures cipher (sym sixteen) (omega arith)))

pub loop-i-preserved : goal.loop-i-preserved
loop-i-preserved c =
    let cipher = c.args.cipher.now in
    let rest = c.as_chunks.result.1.now in
    let i = c.loop-i.i in
    let place = length c.as_chunks.result.0.now * 16 + i in
    let D = decrypt_bytes c.args.round_keys.now in
    let there : i < length rest / 16 = search rules in
    let at : length cipher / 256 * 256 + i * 16 ≡ place * 16 = omega (arith, c.as_chunks.ensures.front_len) in
    let within : place * 16 + 16 ≤ length cipher = omega (arith, c.as_chunks.ensures.front_len, c.as_chunks.ensures.back_len) in
    let here : get_or c.as_chunks-2.result.0.now i [] ≡ block place cipher =
    ap (λ cs. get_or cs i []) c.as_chunks-2.ensures.front ∙ chunk_at 16 _ i rest [] there
    ∙ ap (λ x. take 16 (drop (i * 16) x)) c.as_chunks.ensures.back
    ∙ ap (take 16) (drop-drop (i * 16) (length cipher / 256 * 256) cipher ∙ ap (λ n. drop n cipher) at) in
    let put = c.decrypt_link-text.ensures ∙ ap (λ x. xor (D x) c.loop-i.before) (search (rules, get_or-take, get_or-drop, here)) in
    let room : place * 16 + 16 ≤ length c.loop-i.out = omega (arith, within, c.requires, c.loop-s.auto.out, c.loop-i.auto.out) in
    let more = onward_one D put (search (rules, get_or-take, get_or-drop, here)) c.put_block.ensures c.decrypt_link-text.type_inv.1.0.1 room in
    onward_to (omega arith) (onward_then c.loop-i.invariant more)

pub returns : goal.returns
unfolding deciphered last_or blocks join decipher
returns c =
    let a = c.args in
    let cipher = a.cipher.now in
    let D = decrypt_bytes a.round_keys.now in
    let sixteens : c.loop-s.s * 16 ≡ length c.as_chunks.result.0.now * 16 = omega arith in
    let all : length c.as_chunks.result.0.now * 16 + c.loop-i.i ≡ length cipher / 16 = search rules in
    let begun : At D a.start cipher a.out.now a.out.now a.start 0 = record { last = refl; filled = filled_none _ } in
    let went = onward_then (onward_to sixteens c.loop-s.invariant) (onward_to all c.loop-i.invariant) in
    filled_all a.out.now c.loop-i.out _ _ (went.on a.start a.out.now begun).filled (omega (arith, c.requires, went.size))

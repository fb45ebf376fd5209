-- `state::write_words` meets its contract: a turn puts the four bytes of its word. Assumes nothing.
use lib.ListN.{get_or}
use Rattle.std.specs.Int.{to_le_bytes}
use Rattle.std.proofs.Common.{◌≡◌, rules, w32}
use Rattle.words.proofs.Bytes.{word_by_word}
use Rattle.state.proofs.write_words.Goals as goal

pub loop-i-preserved : goal.loop-i-preserved
loop-i-preserved c =
    let word : c.copy_from_slice.new.self ≡ to_le_bytes w32 (get_or c.args.src c.loop-i.i 0) = search rules in
    search (rules, word_by_word)

-- `words::blocks::block_at` meets its contract: the block is within, or it is not and zeros stand. Assumes nothing.
use Rattle.std.specs.Prelude.{◌≡◌, ◌+◌, ◌≤◌, ◌<◌, length, take, drop}
use Rattle.std.proofs.Common.{rules}
use Rattle.std.proofs.lemmas.Slice.{overwrites}
use Rattle.words.specs.Blocks.{block_at}
use Rattle.words.proofs.blocks.block_at.Goals as goal

pub returns-then-is_some_and : goal.returns-then-is_some_and
unfolding block_at
returns-then-is_some_and c =
    let within : c.args.at + 16 ≤ length c.args.s.now = search rules in
    let block : c.copy_from_slice.new.self ≡ take 16 (drop c.args.at c.args.s.now) = search (rules, overwrites) in
    search rules

pub returns-else-is_some_and : goal.returns-else-is_some_and
unfolding block_at
returns-else-is_some_and c =
    let outside : length c.args.s.now < c.args.at + 16 = search rules in
    search rules

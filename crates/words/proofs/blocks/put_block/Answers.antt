-- `words::blocks::put_block` meets its contract: the block is within and put, or not, and nothing changes. Assumes nothing.
use borrow.Rule.Slice.PartMut.{put_mid}
use Rattle.std.specs.Prelude.{◌≡◌, ◌+◌, ◌-◌, ◌≤◌, ◌<◌, length}
use Rattle.std.proofs.Common.{rules}
use Rattle.std.proofs.Math.Seq.{paste}
use Rattle.std.proofs.lemmas.Slice.{overwrites}
use Rattle.words.specs.Blocks.{put_at}
use Rattle.words.proofs.blocks.put_block.Goals as goal

pub returns-then-is_some_and : goal.returns-then-is_some_and
unfolding put_at
returns-then-is_some_and c =
    let within : c.args.at + 16 ≤ length c.args.out.now = search rules in
    let put : put_mid c.args.at (c.args.at + 16 - c.args.at) c.args.out.now c.copy_from_slice.new.self
    ≡ paste c.args.out.now c.args.at c.args.block 16 = search (rules, overwrites) in
    search rules

pub returns-else-is_some_and : goal.returns-else-is_some_and
unfolding put_at
returns-else-is_some_and c =
    let outside : length c.args.out.now < c.args.at + 16 = search rules in
    search rules

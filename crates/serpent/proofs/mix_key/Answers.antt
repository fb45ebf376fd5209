-- `serpent::mix_key` meets its contract: it is the XOR with the four words at 4i. Assumes nothing.
use Rattle.serpent.specs.Block.{mix}
use Rattle.serpent.proofs.mix_key.Goals as goal

pub returns : goal.returns
unfolding mix
returns c = rw (c.xor.ensures, c.four_words.ensures)

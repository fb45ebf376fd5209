-- `bitslice::sbox_d5` meets its contract: its circuit, run on truth tables, gives the columns of its table. Assumes nothing.
use mathlib.Core.Path.{refl}
use Rattle.bitslice.proofs.Circuits.{columns, circuits, by_table}
use borrow.Author.Rules.{rules}
use Rattle.bitslice.proofs.sbox_d5.Goals as goal

pub returns : goal.returns
unfolding columns
returns c = by_table (λ i. search rules) _ (search circuits depth 16) refl

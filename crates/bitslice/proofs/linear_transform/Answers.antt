-- `bitslice::linear_transform` meets its contract: its stores are the ten steps, one after the other. Assumes nothing.
use mathlib.Core.Path.{refl}
use Rattle.bitslice.specs.Linear.{linear, run}
use Rattle.bitslice.proofs.Linear.{turned, mixed, mixed_shl}
use Rattle.bitslice.proofs.linear_transform.Goals as goal

pub returns : goal.returns
unfolding linear run
returns c =
    let second = turned (turned refl 0 13 c.rotate_left.ensures) 2 3 c.rotate_left-2.ensures in
    let third = turned (mixed_shl (mixed second 1 0 2) 3 2 0 3) 1 1 c.rotate_left-3.ensures in
    let fourth = turned third 3 7 c.rotate_left-4.ensures in
    let fifth = turned (mixed_shl (mixed fourth 0 1 3) 2 3 1 7) 0 5 c.rotate_left-5.ensures in
    turned fifth 2 22 c.rotate_left-6.ensures

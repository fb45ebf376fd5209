-- `bitslice::linear_transform_inv` meets its contract: its stores are the ten steps undone, the last first. Assumes nothing.
use mathlib.Core.Path.{refl}
use Rattle.bitslice.specs.Linear.{linear, back, undo, run}
use Rattle.bitslice.proofs.Linear.{turned, mixed, mixed_shl}
use Rattle.bitslice.proofs.linear_transform_inv.Goals as goal

pub returns : goal.returns
unfolding linear back undo run
returns c =
    let second = turned (turned refl 2 10 c.rotate_right.ensures) 0 27 c.rotate_right-2.ensures in
    let third = turned (mixed (mixed_shl second 2 3 1 7) 0 1 3) 3 25 c.rotate_right-3.ensures in
    let fourth = turned third 1 31 c.rotate_right-4.ensures in
    let fifth = turned (mixed (mixed_shl fourth 3 2 0 3) 1 0 2) 2 29 c.rotate_right-5.ensures in
    turned fifth 0 19 c.rotate_right-6.ensures

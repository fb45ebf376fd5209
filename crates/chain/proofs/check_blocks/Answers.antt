-- `chain::check_blocks` meets its contract: its tests are the definition's, in order. Assumes nothing.
use mathlib.Core.Path.{◌≡◌, sym}
use Prim.Native.Nat.{◌%◌, ◌≤◌, ◌<◌}
use native.Mathlib.Omega.{arith}
use Rattle.chain.proofs.Numbers.{ragged_blocks, short_blocks, done_blocks}
use Rattle.chain.proofs.check_blocks.Goals as goal

pub returns-then-bytes-ne0 : goal.returns-then-bytes-ne0
returns-then-bytes-ne0 c =
    let uneven : c.args.bytes % 16 ≡ 0 → ⊥ = λ z. omega arith in
    sym (ragged_blocks _ _ uneven)

pub returns-then-out-bytes : goal.returns-then-out-bytes
returns-then-out-bytes c =
    let a = c.args in
    let even : a.bytes % 16 ≡ 0 = omega arith in
    let short : a.out < a.bytes = omega arith in
    sym (short_blocks _ _ even short)

pub returns : goal.returns
returns c =
    let a = c.args in
    let even : a.bytes % 16 ≡ 0 = omega arith in
    let long : a.bytes ≤ a.out = omega arith in
    sym (done_blocks _ _ even long)

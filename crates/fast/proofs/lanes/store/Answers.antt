-- `lanes::store` meets its contract: after j turns the bytes of the lanes below j stand in front. Assumes nothing.
use mathlib.Core.Path.{◌≡◌, sym, ap, ◌∙◌}
use mathlib.Core.List.{List}
use Prim.Native.Nat.{ℕ}
use native.Mathlib.Omega.{arith}
use lib.ListN.{length}
use lib.Seq.{take_all}
use Rattle.words.specs.Bytes.{bytes_of}
use Rattle.words.proofs.Filled.{filled_none, filled_more}
use Rattle.fast.specs.Lanes.{lane, lane_bytes}
use Rattle.fast.proofs.Sixteen.{lane_bytes_more}
use Rattle.fast.proofs.lanes.store.Goals as goal

pub loop-j-init : goal.loop-j-init
unfolding lane_bytes
loop-j-init c = filled_none _

pub loop-j-preserved : goal.loop-j-preserved
loop-j-preserved c =
    let at = c.loop-j in
    let w = c.args.w.now in
    let bytes = c.write_words-x.result in
    let size : length bytes ≡ 16 = c.write_words-x.type_inv.1.0.1 in
    let same : bytes ≡ bytes_of (lane w at.j) 16 =
    c.write_words-x.ensures ∙ ap (λ (x : List ℕ). bytes_of x 16) c.lane.ensures in
    let more = filled_more _ at.out at.j (lane_bytes w at.j) bytes at.invariant size (omega (arith, at.invariant)) in
    rw c.put_block.ensures (rw (lane_bytes_more w at.j, ← same) more)

pub returns : goal.returns
returns c =
    let at = c.loop-j in
    let e : at.j ≡ 16 = omega arith in
    sym (take_all 256 _ (omega (arith, at.invariant))) ∙ (rw e at at.invariant.written)

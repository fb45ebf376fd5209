use Prim.Native.Nat.{◌+◌, ◌*◌}
use lib.ListN.{length}
use Rattle.serpent.specs.Block.{decrypt_bytes}
use Rattle.chain.specs.Turns.{Onward}
use Rattle.chain.proofs.DecipheringWay.chain.Given as goal

-- sixteen blocks a turn
abbrev pub invariant-loop-s : goal.invariant-loop-s
invariant-loop-s l = Onward (decrypt_bytes l.round_keys) l.cipher l.initial.out l.initial.before 0 l.out l.before (l.s * 16)

-- those that are left
abbrev pub invariant-loop-i : goal.invariant-loop-i
invariant-loop-i l =
    let behind = length l.sixteens * 16 in
    Onward (decrypt_bytes l.round_keys) l.cipher l.initial.out l.initial.before behind l.out l.before (behind + l.i)

use Rattle.std.proofs.Common.{◌≡◌, ◌*◌, length, take}
use Rattle.words.specs.Bytes.{bytes_of}
use Rattle.slices.proofs.parts.round_key_bytes.Given as goal

abbrev pub invariant-loop-i : goal.invariant-loop-i
invariant-loop-i l = record { size : length l.bytes ≡ 528; written : take (4 * l.i) l.bytes ≡ bytes_of l.fn.round_keys (4 * l.i) }

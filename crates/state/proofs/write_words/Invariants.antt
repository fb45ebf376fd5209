use Rattle.std.proofs.Common.{◌≡◌, ◌*◌, length, take}
use Rattle.words.specs.Bytes.{bytes_of}
use Rattle.state.proofs.write_words.Given as goal

abbrev pub invariant-loop-i : goal.invariant-loop-i
invariant-loop-i l = record { size : length l.dst ≡ 16; written : take (4 * l.i) l.dst ≡ bytes_of l.fn.src (4 * l.i) }

-- `read_numbers` reads four bytes after the other: the numbers of those that are left are still to be read.
use mathlib.Core.Path.{◌≡◌}
use Prim.Native.Nat.{◌+◌, ◌*◌}
use lib.ListN.{length}
use Rattle.std.specs.Iterator.Adapters.{enumerate_source, enumerate_count}
use Rattle.std.specs.Slice.Iter.{chunks_exact_rest, chunks_exact_size}
use Rattle.files.specs.Laid.{Partly, words_of}
use Rattle.files.proofs.read_numbers.Given as goal

abbrev pub invariant-loop-i : goal.invariant-loop-i
invariant-loop-i l = record {
  four : chunks_exact_size (enumerate_source l.i-iterator) ≡ 4;
  long : 4 * enumerate_count l.i-iterator + length (chunks_exact_rest (enumerate_source l.i-iterator)) ≡ length l.bytes;
  read : Partly (words_of l.bytes) (words_of (chunks_exact_rest (enumerate_source l.i-iterator))) 0
      (enumerate_count l.i-iterator) l.initial.numbers l.numbers;
}

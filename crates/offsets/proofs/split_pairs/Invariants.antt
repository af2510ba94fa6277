-- `split_pairs` goes from pair to pair. The loop's invariant: those before are apart, and the others are left.
use mathlib.Core.Path.{◌≡◌}
use Prim.Native.Nat.{◌*◌}
use lib.ListN.{drop}
use Rattle.std.specs.Iterator.Adapters.{enumerate_source, enumerate_count}
use Rattle.std.specs.Slice.Iter.{chunks_exact_rest, chunks_exact_size}
use Rattle.offsets.proofs.PairLaws.{Apart}
use Rattle.offsets.proofs.split_pairs.Given as goal

abbrev pub invariant-loop-i : goal.invariant-loop-i
invariant-loop-i l = record {
  two : chunks_exact_size (enumerate_source l.i-iterator) ≡ 2;
  left : chunks_exact_rest (enumerate_source l.i-iterator) ≡ drop (2 * enumerate_count l.i-iterator) l.pairs;
  apart : Apart l.pairs (enumerate_count l.i-iterator) l.terms l.offsets;
}

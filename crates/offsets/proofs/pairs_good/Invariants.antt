-- `pairs_good` goes from pair to pair. The loop's invariant: what is left says what the whole says.
use mathlib.Core.Path.{◌≡◌}
use Rattle.std.specs.Slice.Iter.{chunks_exact_rest, chunks_exact_size}
use Rattle.offsets.specs.Pairs.{pairs_good, Even}
use Rattle.offsets.proofs.pairs_good.Given as goal

abbrev pub invariant-loop-pair : goal.invariant-loop-pair
invariant-loop-pair l = record {
  two : chunks_exact_size l.pair-iterator ≡ 2;
  even : Even (chunks_exact_rest l.pair-iterator);
  same : pairs_good l.t l.least (chunks_exact_rest l.pair-iterator) ≡ pairs_good l.t 0 l.pairs;
}

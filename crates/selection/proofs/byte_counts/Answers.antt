use Rattle.std.proofs.Common.{◌/◌, arith}
use lib.Bits.{and_le_l}
use Rattle.selectlaws.specs.ByteCounts.{each}
use Rattle.selectlaws.proofs.ByteLaws.{paired, folded_le, counted_is}
use Rattle.selection.proofs.byte_counts.Goals as goal

pub overflow_sub-pairs : goal.overflow_sub-pairs
overflow_sub-pairs c = omega (arith, and_le_l (c.args.x / 2) (each 8 85))

pub overflow_add-halves : goal.overflow_add-halves
overflow_add-halves c = omega (arith, folded_le (each 8 51) (paired (each 8 85) c.args.x))

pub overflow_add-result : goal.overflow_add-result
overflow_add-result c = omega (arith, folded_le (each 8 51) (paired (each 8 85) c.args.x))

pub returns : goal.returns
returns c = counted_is 8 c.args.x

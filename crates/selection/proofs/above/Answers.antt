use Rattle.std.proofs.Common.{arith}
use Rattle.selectlaws.proofs.SelectLaws.{marked_fits}
use Rattle.selection.proofs.above.Goals as goal

pub overflow_sub-result : goal.overflow_sub-result
overflow_sub-result c = omega (arith, marked_fits 8 c.args.sums c.args.j (omega arith))

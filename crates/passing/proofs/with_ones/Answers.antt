-- `with_ones` adds at most 64 ones.
use native.Mathlib.Omega.{arith}
use lib.Count.{ones-le}
use Rattle.passing.proofs.with_ones.Goals as goal

pub overflow_cast-result : goal.overflow_cast-result
overflow_cast-result c = record { fits = omega (arith, ones-le 64 c.args.left (omega arith)) }

pub overflow_add-result : goal.overflow_add-result
overflow_add-result c = record { fits = omega (arith, ones-le 64 c.args.left (omega arith)) }

-- `paired` lays the high part above the 32 bits of the low part: it is small enough for that.
use native.Mathlib.Omega.{arith}
use Rattle.checklaws.proofs.PairLaws.{pair_shl}
use Rattle.checkparts.proofs.paired.Goals as goal

pub overflow_add-result : goal.overflow_add-result
overflow_add-result c = omega (arith, pair_shl c.args.high c.args.low c.requires.0, c.requires)

pub returns : goal.returns
returns c = pair_shl c.args.high c.args.low c.requires.0

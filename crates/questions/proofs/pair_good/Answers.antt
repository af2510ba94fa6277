-- `pair_good` tests the number of numbers, and then the term.
use native.Mathlib.Omega.{arith}
use borrow.Author.Tests.{eq-eqb, ne_eqb}
use lib.ListN.{length}
use Rattle.rules.specs.Questions.{pair_good}
use Rattle.questions.proofs.pair_good.Goals as goal

pub returns-then-args-ne2 : goal.returns-then-args-ne2
unfolding pair_good
returns-then-args-ne2 c = rw (ne_eqb (length c.args.args.now) 2 c.if-args-ne2.true)

pub overflow_cast-result : goal.overflow_cast-result
overflow_cast-result c = omega (arith, c.shared_slice_known-1.given 0)

pub returns : goal.returns
unfolding pair_good
returns c = rw (eq-eqb (length c.args.args.now) 2 c.if-args-ne2.false)

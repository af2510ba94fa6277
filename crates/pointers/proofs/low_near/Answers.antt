-- `low_near` goes down from the guess to a number that was compared, or to number 0.
use mathlib.Core.Path.{sym, ◌∙◌}
use Prim.Native.Nat.{◌+◌, ◌*◌}
use native.Mathlib.Omega.{arith}
use borrow.Author.Tests.{leb-true}
use Rattle.readlaws.specs.Open.{number_at}
use Rattle.readlaws.proofs.NearLaws.{compares_lower, first_before}
use Rattle.pointers.proofs.low_near.Goals as goal

pub precedes-requires : goal.precedes-requires
precedes-requires c =
    let start = c.before.before.before in
    let a = start.args in
    compares_lower a.block.now a.guess a.zeros a.rank start.requires c.loop-guess.i c.loop-guess.invariant.0

pub returns-then-i-step : goal.returns-then-i-step
returns-then-i-step c =
    let a = c.args in
    (omega arith, first_before a.block.now a.guess a.zeros a.rank)

pub overflow_mul-step : goal.overflow_mul-step
overflow_mul-step c =
    let start = c.before.before.before.before.before.before in
    record { fits = omega (arith, c.loop-guess.invariant.0, start.requires.few) }

pub returns : goal.returns
returns c =
    let at = c.loop-guess in
    let a = c.args in (
      at.invariant.0,
      leb-true (number_at a.block.now at.i) (a.zeros * at.i + a.rank)
          (sym c.precedes.ensures ∙ c.loop-guess-test.false),
    )

pub loop-guess-preserved : goal.loop-guess-preserved
loop-guess-preserved c = (omega (arith, c.loop-guess.invariant), omega (arith, c.loop-guess.invariant))

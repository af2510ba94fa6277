-- `counts_fit` takes the counts from n one by one: what is left of n is to be the sum of those that are left.
use mathlib.Core.Path.{sym, ◌∙◌}
use Prim.Native.Nat.{◌<◌}
use native.Mathlib.Omega.{arith}
use lib.ListN.{get_or}
use Rattle.wordlaws.proofs.CheckLaws.{summing_end, summing_none, summing_over, summing_on}
use Rattle.testword.proofs.counts_fit.Goals as goal

pub returns-then-c-eq0 : goal.returns-then-c-eq0
returns-then-c-eq0 c =
    let l = c.loop-count in
    sym (l.invariant.1 ∙ summing_none l.left c.args.counts.now l.count-index (omega arith) c.if-c-eq0.true)

pub returns-then-left-c : goal.returns-then-left-c
returns-then-left-c c =
    let l = c.loop-count in
    sym (l.invariant.1 ∙ summing_over l.left c.args.counts.now l.count-index (omega arith) c.if-left-c.true)

pub loop-count-preserved : goal.loop-count-preserved
loop-count-preserved c =
    let l = c.loop-count in
    let counts = c.args.counts.now in
    let some : 0 < get_or counts l.count-index 0 = omega arith in (
      omega arith,
      l.invariant.1 ∙ summing_on l.left counts l.count-index (omega arith) some c.if-left-c.false,
    )

pub returns : goal.returns
returns c =
    let l = c.loop-count in
    sym (l.invariant.1 ∙ summing_end l.left c.args.counts.now l.count-index (omega arith))

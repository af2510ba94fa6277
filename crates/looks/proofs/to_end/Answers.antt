-- `to_end` looks at each word up to the last.
use Rattle.std.proofs.Common.{arith}
use Rattle.rules.specs.Runs.{words_for}
use Rattle.looks.proofs.to_end.Goals as goal

pub overflow_sub-last : goal.overflow_sub-last
unfolding words_for
overflow_sub-last c = omega (arith, c.requires.1)

pub next_word-requires : goal.next_word-requires
unfolding words_for
next_word-requires c = (c.requires.0, omega (arith, c.loop-k-test.true), omega (arith, c.loop-k.invariant, c.requires.2))

pub loop-k-preserved : goal.loop-k-preserved
loop-k-preserved c = omega (arith, c.loop-k.invariant, c.next_word.ensures.3)

pub returns : goal.returns
unfolding words_for
returns c = omega (arith, c.loop-k.invariant, c.loop-k-test.false, c.loop-k.auto.k-end, c.requires.1)

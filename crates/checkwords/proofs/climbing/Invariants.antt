-- `climbing` passes the words one after the other. The loop's invariant: what is known of those passed is so.
use Rattle.checklaws.specs.Check.{At}
use Rattle.checkwords.proofs.climbing.Given as goal

abbrev pub invariant-loop-k : goal.invariant-loop-k
invariant-loop-k l = At l.s l.g l.k l.m

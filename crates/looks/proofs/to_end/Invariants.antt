-- `to_end` looks at each word up to the last.
use Rattle.walklaws.specs.Walks.{Paid}
use Rattle.looks.proofs.to_end.Given as goal

abbrev pub invariant-loop-k : goal.invariant-loop-k
invariant-loop-k l = Paid l.from l.initial.looks l.k l.looks

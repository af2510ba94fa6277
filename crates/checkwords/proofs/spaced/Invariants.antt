-- `spaced` passes the words of a list without low parts. The loop's invariant: what is known of those passed is so.
use Rattle.checklaws.proofs.SpacedLaws.{Along}
use Rattle.checkwords.proofs.spaced.Given as goal

abbrev pub invariant-loop-k : goal.invariant-loop-k
invariant-loop-k l = Along l.s l.g l.k l.i l.next l.carry

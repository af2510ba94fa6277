-- `climb` reads the elements of a word. The loop's invariant:
-- what is left is the word with the ones that were read cleared.
use Rattle.checklaws.proofs.TurnLaws.{Peeled}
use Rattle.checkwords.proofs.climb.Given as goal

abbrev pub invariant-loop-rest : goal.invariant-loop-rest
invariant-loop-rest l =
    Peeled l.s l.g l.k l.x l.m.i l.rest l.lift l.last l.rises l.low

abbrev pub decreases-loop-rest : goal.decreases-loop-rest
decreases-loop-rest l = l.rest

-- `find_terms` walks from term to term in rising order. The loop's invariant: `Finding`.
use lib.ListN.{length}
use Rattle.findlaws.proofs.StartLaws.{Finding, ahead}
use Rattle.findterms.proofs.find_terms.Given as goal

abbrev pub invariant-loop-next : goal.invariant-loop-next
invariant-loop-next l = Finding l.card l.terms l.starts (length l.initial.starts) l.t l.rest l.next

abbrev pub decreases-loop-next : goal.decreases-loop-next
decreases-loop-next l = ahead l.card l.next

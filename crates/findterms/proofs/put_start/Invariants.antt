-- `put_start` goes through the terms. The loop's invariant: those passed have their starts as they should.
use Rattle.findlaws.specs.Starts.{PutOf}
use Rattle.findterms.proofs.put_start.Given as goal

abbrev pub invariant-loop-i : goal.invariant-loop-i
invariant-loop-i l = PutOf l.terms l.i l.t l.at l.initial.starts l.starts

-- `map_ok` passes the stretches of 256 bits, each with the number behind it, and then the words that are left.
use Rattle.checkmap.proofs.MapLaws.{Counted}
use Rattle.checkmap.proofs.map_ok.Given as goal

abbrev pub invariant-loop-q : goal.invariant-loop-q
invariant-loop-q l = Counted l.s l.g.upper l.q l.i

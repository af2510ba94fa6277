-- `open_words` fills one slot after the other. The loop's invariant: the slots filled so far place their words' lists.
use Rattle.openwords.specs.Slots.{Filled}
use Rattle.openwords.proofs.open_words.Given as goal

abbrev pub invariant-loop-i : goal.invariant-loop-i
invariant-loop-i l = Filled l.card l.terms l.k l.i l.shapes

-- `pass_to` passes words while the zeros up to their end are fewer than h.
use Rattle.rules.specs.Runs.{words_for}
use Rattle.rules.specs.InPlace.{number_of}
use Rattle.pointlaws.specs.Pointing.{Before}
use Rattle.pointing.proofs.pass_to.Given as goal

abbrev pub invariant-loop-words : goal.invariant-loop-words
invariant-loop-words l =
    Before (number_of (words_for l.b) l.run) (words_for l.b) l.h (record { words = l.words; zeros = l.zeros })

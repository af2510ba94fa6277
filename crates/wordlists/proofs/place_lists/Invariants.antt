-- `place_lists` goes from word to word. The loop's invariant: the places put so far are those of the words' lists.
use mathlib.Core.Path.{◌≡◌}
use lib.ListN.{length}
use Rattle.wordlists.specs.Lying.{AllLying}
use Rattle.wordlists.proofs.place_lists.Given as goal

abbrev pub invariant-loop-i : goal.invariant-loop-i
invariant-loop-i l = (length l.places ≡ 16) × AllLying l.card l.terms l.k l.i l.places

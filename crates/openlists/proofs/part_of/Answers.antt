-- `part_of` lends the part that the place names.
use borrow.Author.Rules.{rules}
use Rattle.openlists.specs.Places.{place_part}
use Rattle.openlists.proofs.part_of.Goals as goal

pub returns : goal.returns
unfolding place_part
returns c = search rules

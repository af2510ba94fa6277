-- `places` is the table: its numbers are tested here, all at once.
use mathlib.Core.Path.{refl}
use Rattle.fields.specs.Words.{place_of_one}
use Rattle.bytetable.specs.declared.TheConstants.{PLACES}
use Rattle.bytetable.proofs.TableLaws.{tested_places}
use Rattle.bytetable.proofs.places.Goals as goal

pub invariant_of-result : goal.invariant_of-result
unfolding place_of_one
invariant_of-result c = record { places = tested_places PLACES refl tt }

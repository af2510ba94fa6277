-- `open_slots` fills one slot after the other.
use Rattle.openlists.specs.Places.{Slots}
use Rattle.openlists.proofs.open_slots.Given as goal

abbrev pub invariant-loop-t : goal.invariant-loop-t
invariant-loop-t l = Slots l.card l.places l.lead l.t l.shapes

-- `add_map` lays elements one by one: the ones of those that are passed are set or in hand.
use Rattle.addlaws.specs.Adding.{MapLaid}
use Rattle.adding.proofs.add_map.Given as goal

abbrev pub invariant-loop-x : goal.invariant-loop-x
invariant-loop-x l = MapLaid l.at l.list l.x-index l.highs l.initial.block l.block

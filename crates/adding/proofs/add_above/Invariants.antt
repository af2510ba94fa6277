-- `add_above` lays elements one by one: the low parts and the ones of the first i are laid or in hand, whatever the shape.
use Rattle.shape.specs.declared.Shape.{Shape}
use Rattle.addlaws.specs.Adding.{Slots, BothLaid}
use Rattle.addlaws.proofs.OneLaws.{shape_at}
use Rattle.adding.proofs.add_above.Given as goal

abbrev pub invariant-loop-i : goal.invariant-loop-i
invariant-loop-i l =
    (g : Shape) → Slots l.lower l.upper l.w l.from l.base l.list l.initial.block g
    → BothLaid (shape_at l.lower l.upper l.w g) l.from l.base l.list l.i l.i l.lows l.highs l.initial.block l.block

-- `layout` works out the places of the lists, which the announcement bounds.
use native.Mathlib.Omega.{arith}
use Rattle.sessionlaws.proofs.LayoutLaws.{layout_made, announcing_small}
use Rattle.sessions.proofs.layout.Goals as goal

pub returns : goal.returns
returns c v N P Q U e f h =
    let a = c.args in
    layout_made v N P Q U a.first a.counts a.last e f h

pub overflow_add-second : goal.overflow_add-second
overflow_add-second c = omega (arith, announcing_small c.requires)

pub overflow_add-third : goal.overflow_add-third
overflow_add-third c = omega (arith, announcing_small c.requires)

pub overflow_add-result : goal.overflow_add-result
overflow_add-result c = omega (arith, announcing_small c.requires)

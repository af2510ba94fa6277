use Rattle.laws.proofs.BitLaws.{placed_one, placed_two}
use mathlib.Core.Path.{◌∙◌}
use native.Mathlib.Nat.{zero-add}
use Rattle.fields.proofs.place.Goals as goal

pub returns-then-b-w-le64 : goal.returns-then-b-w-le64
returns-then-b-w-le64 c =
    let a = c.args in
    let p = c.requires in
    zero-add _ ∙ placed_one a.acc a.v a.b a.w p.0 p.3 p.2 c.if-b-w-le64.true

pub returns : goal.returns
returns c =
    let a = c.args in
    let p = c.requires in
    placed_two a.acc a.v a.b p.0 p.3

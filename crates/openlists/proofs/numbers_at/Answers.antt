-- `numbers_at` reads the shape of an accepted block, whose numbers are narrow.
use native.Mathlib.Omega.{arith}
use Rattle.rules.specs.ReadList.{form_at}
use Rattle.openlists.specs.Places.{bytes_of}
use Rattle.openlists.proofs.SlotLaws.{Narrow, open_narrow}
use Rattle.openlists.proofs.numbers_at.Lts
use Rattle.openlists.proofs.numbers_at.Reads
use Rattle.openlists.proofs.numbers_at.Tie
use Rattle.openlists.proofs.numbers_at.Goals as goal

abbrev After-shape_at-g : Type 0
After-shape_at-g = Lts.After-shape_at Tie.the-claims Reads.Pre Reads.Post

fits : (c : After-shape_at-g) → Narrow c.shape_at-g.result
fits c =
    let a = c.args in
    let s = bytes_of a.card.now a.from a.to in
    open_narrow (form_at s) s c.shape_at-g.result c.shape_at-g.ensures.0

pub returns : goal.returns
returns c =
    let d = c in
    rw d.shape_at-g.ensures.1

pub overflow_cast-row-3 : goal.overflow_cast-row-3
overflow_cast-row-3 c = let n = fits c.before.before in omega arith

pub overflow_cast-row-4 : goal.overflow_cast-row-4
overflow_cast-row-4 c = let n = fits c.before.before.before in omega arith

pub overflow_cast-row-5 : goal.overflow_cast-row-5
overflow_cast-row-5 c = let n = fits c.before.before.before.before in omega arith

pub overflow_cast-row-6 : goal.overflow_cast-row-6
overflow_cast-row-6 c = let n = fits c.before.before.before.before.before in omega arith

pub overflow_cast-row-7 : goal.overflow_cast-row-7
overflow_cast-row-7 c = let n = fits c.before.before.before.before.before.before in omega arith

pub overflow_cast-row-8 : goal.overflow_cast-row-8
overflow_cast-row-8 c = let n = fits c.before.before.before.before.before.before.before in omega arith

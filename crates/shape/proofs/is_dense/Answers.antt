-- `is_dense` tells density: the bits of both runs are those of the shape.
use mathlib.Core.Path.{ap, ◌∙◌}
use Prim.Native.Nat.{◌+◌, ◌*◌, ◌≤◌}
use native.Mathlib.Omega.{arith}
use lib.Dec.{ltb}
use Rattle.shape.specs.declared.Shape.{Shape}
use Rattle.shape.proofs.ShapeLaws.{dense_shape, shape_few}
use Rattle.shape.proofs.is_dense.Lts
use Rattle.shape.proofs.is_dense.Reads
use Rattle.shape.proofs.is_dense.Goals as goal

abbrev Start : Type 0
Start = Lts.Start Reads.Pre Reads.Post

-- the bits of both runs
few : (c : Start)
    → (c.args.g.bits ≤ 2 * c.args.u) × (c.args.n * c.args.g.w ≤ c.args.u)
few c = rw c.requires.0 (shape_few c.args.u c.args.n c.requires.1 c.requires.2)

pub overflow_mul-result : goal.overflow_mul-result
overflow_mul-result c = omega (arith, (few c.before).1)

pub overflow_add-result : goal.overflow_add-result
overflow_add-result c =
    let f = few c.before.before in
    omega (arith, f.0, f.1)

pub returns : goal.returns
returns c =
    let b = c.before.before in
    ap (λ (g : Shape). ltb b.args.u (g.bits + b.args.n * g.w)) b.requires.0 ∙ dense_shape b.args.u b.args.n

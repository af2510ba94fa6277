-- `precedes` compares the number: zeros * i of the bits before its place are zeros.
use mathlib.Core.Path.{ap}
use Prim.Native.Nat.{ℕ, ◌+◌, ◌*◌}
use native.Mathlib.Omega.{arith}
use lib.Dec.{leb}
use Rattle.readlaws.proofs.NearLaws.{zeros_small}
use Rattle.pointers.proofs.precedes.Goals as goal

pub number_in-requires : goal.number_in-requires
number_in-requires c = (c.requires.stored, c.requires.few)

pub overflow_mul-result : goal.overflow_mul-result
overflow_mul-result c =
    let start = c.before.before.before in
    let a = start.args in
    record { fits = omega (arith, zeros_small a.block.now a.i a.zeros a.rank start.requires) }

pub overflow_add-result : goal.overflow_add-result
overflow_add-result c =
    let start = c.before.before.before in
    let a = start.args in
    record {
      fits = omega (arith, zeros_small a.block.now a.i a.zeros a.rank start.requires, start.requires.small);
    }

pub returns : goal.returns
returns c =
    let a = c.args in
    ap (λ (p : ℕ). leb p (a.zeros * a.i + a.rank)) c.number_in.ensures

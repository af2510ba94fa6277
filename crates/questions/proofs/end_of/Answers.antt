use Prim.Native.Nat.{◌+◌}
use native.Mathlib.Omega.{arith}
use Rattle.questions.proofs.PlaceLaws.{count_at}
use Rattle.questions.proofs.end_of.Goals as goal

pub overflow_cast-result : goal.overflow_cast-result
overflow_cast-result c = omega (arith, c.shared_slice_known-1.given (c.args.at + 1))

pub overflow_add-result-3 : goal.overflow_add-result-3
overflow_add-result-3 c = omega (arith, c.shared_slice_known-1.given (c.args.at + 1))

pub returns : goal.returns
returns c =
    let a = c.args in
    let e = count_at a.questions.now a.at in
    (omega arith, omega (arith, c.shared_slice_known-1.given (a.at + 1)))

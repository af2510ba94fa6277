use native.Mathlib.Omega.{arith}
use Rattle.laws.proofs.BitLaws.{near, far}
use lib.Pow.{pow_pos, pow_mono}
use Rattle.fields.proofs.field_of.Goals as goal

pub overflow_sub-mask : goal.overflow_sub-mask
overflow_sub-mask c = omega (arith, pow_pos c.args.w, pow_mono {i = c.args.w} {j = 32} (omega arith))

pub returns-then-b-w-le64 : goal.returns-then-b-w-le64
returns-then-b-w-le64 c =
    let a = c.args in
    near a.hi a.lo a.b a.w (omega arith) (omega arith)

pub returns : goal.returns
returns c =
    let a = c.args in
    far a.hi a.lo a.b a.w (omega arith) (omega arith) c.ranges.lo.fits

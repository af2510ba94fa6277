use native.Mathlib.Omega.{arith}
use Rattle.laws.proofs.BitLaws.{masked}
use lib.Pow.{pow_pos, pow_mono}
use mathlib.Core.Path.{◌≡◌, ap, sym, subst}
use Prim.Native.Nat.{ℕ, ◌%◌, ◌^◌, ◌<◌}
use native.Mathlib.Nat.{mod-lt, mod-eq_of_lt}
use lib.Count.{ones, ones-le}
use Rattle.fields.proofs.ones_below.Goals as goal

pub returns-then-j-eq64 : goal.returns-then-j-eq64
returns-then-j-eq64 c =
    let a = c.args in
    let l : a.x < 2 ^ 64 = c.ranges.x.fits in
    let j : 64 ≡ a.j = omega arith in (
      subst (λ (i : ℕ). ones a.x ≡ ones (a.x % 2 ^ i)) j (ap ones (sym (mod-eq_of_lt l))),
      omega (arith, ones-le 64 a.x l),
    )

pub overflow_sub-result : goal.overflow_sub-result
overflow_sub-result c = omega (arith, pow_pos c.args.j, pow_mono {i = c.args.j} {j = 63} (omega arith))

pub returns : goal.returns
returns c =
    let a = c.args in
    let e = ap ones (masked a.x a.j (omega arith)) in
    (e, omega (arith, e, ones-le a.j (a.x % 2 ^ a.j) (mod-lt a.x (pow_pos a.j))))

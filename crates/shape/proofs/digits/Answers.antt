-- `digits` tells the place of the highest one of 2 x + 1, which is the number of digits of x.
use mathlib.Core.Path.{◌≡◌}
use Prim.Native.Nat.{ℕ, zero, suc, ◌+◌, ◌-◌, ◌*◌, ◌^◌, ◌≤◌, ◌<◌}
use native.Mathlib.Nat.{pow-suc}
use native.Mathlib.Omega.{arith}
use lib.Count.{count_leading_zeros, leading_top}
use Rattle.laws.proofs.WidthLaws.{power_le}
use Rattle.shape.proofs.digits.Goals as goal

-- that place, above 0 since x is
placed : (x j : ℕ) → 0 < x → x < 2 ^ 32 → 2 ^ j ≤ 2 * x + 1 → 2 * x + 1 < 2 ^ suc j
    → (2 ^ j ≤ 2 * x) × (x < 2 ^ j) × (j ≤ 32)
placed x zero some fits low high = absurd (omega arith)
placed x (suc k) some fits low high =
    let p = pow-suc 2 k in
    let q = pow-suc 2 (suc k) in
    (omega (arith, p), omega (arith, q), power_le (2 * x + 1) (suc k) 32 low (omega arith))

top : (x : ℕ) → 0 < x → x < 2 ^ 32
    → (count_leading_zeros 64 (2 * x + 1) ≤ 63) × (2 ^ (63 - count_leading_zeros 64 (2 * x + 1)) ≤ 2 * x)
    × (x < 2 ^ (63 - count_leading_zeros 64 (2 * x + 1))) × (63 - count_leading_zeros 64 (2 * x + 1) ≤ 32)
top x some fits =
    let t = leading_top 64 (2 * x + 1) (omega arith) (omega arith) in
    let e : 63 - count_leading_zeros 64 (2 * x + 1) ≡ t.0 = omega (arith, t.1) in
    let p = placed x t.0 some fits t.2 t.3 in
    (omega (arith, t.1), rw e p.0, rw e p.1, rw e p.2)

pub overflow_sub-result : goal.overflow_sub-result
overflow_sub-result c = omega (arith, (top c.args.x c.requires.0 c.requires.1).0)

pub returns : goal.returns
returns c =
    let t = top c.args.x c.requires.0 c.requires.1 in
    (t.1, t.2, t.3)

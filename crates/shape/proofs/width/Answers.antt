-- `width` is the difference of the digits of u and n, or one less where n with as many zeros behind it passes u.
use mathlib.Core.Path.{◌≡◌}
use Prim.Native.Nat.{ℕ, ◌-◌, ◌*◌, ◌%◌, ◌^◌, ◌≤◌, ◌<◌}
use native.Mathlib.Nat.{lt_of_not-le, mod-eq_of_lt}
use native.Mathlib.Decide.{dec_le}
use native.Mathlib.Omega.{arith}
use borrow.Author.Tests.{le-ltb, lt-ltb}
use lib.Dec.{ltb}
use mir.Val.{bool_byte}
use Rattle.rules.specs.List.{width}
use Rattle.laws.proofs.WidthLaws.{width_le, digits_le, digits_near, digits_more, digits_less}
use Rattle.shape.proofs.width.Lts
use Rattle.shape.proofs.width.Reads
use Rattle.shape.proofs.width.Tie
use Rattle.shape.proofs.width.Goals as goal

abbrev After-digits-2 : Type 0
After-digits-2 = Lts.After-digits2 Tie.the-claims Reads.Pre Reads.Post

pub overflow_sub-more : goal.overflow_sub-more
overflow_sub-more c =
    let a = c.before.before in
    let d = c.digits.ensures in
    let e = c.digits-2.ensures in
    digits_le a.args.u a.args.n a.requires.0 a.requires.1 a.requires.2 _ _ d.0 d.1 e.0 e.1

-- what is taken off the difference: 1 where n with so many zeros behind it passes u
taken : (u n a b : ℕ) → 0 < n → n ≤ u → u < 2 ^ 32 → 2 ^ a ≤ 2 * u → u < 2 ^ a → 2 ^ b ≤ 2 * n → n < 2 ^ b
    → let t = bool_byte (ltb u (n * 2 ^ (a - b) % 2 ^ 64)) in
    (t ≤ a - b) × (a - b - t ≡ width u n) × (a - b - t ≤ 31)
taken u n a b some below fits top short own few =
    let m : n * 2 ^ (a - b) % 2 ^ 64 ≡ n * 2 ^ (a - b) =
    mod-eq_of_lt (omega (arith, digits_near u n some below fits a b top short own few)) in
    let w = width_le u n some below fits 31 fits in
    elim (dec_le (n * 2 ^ (a - b)) u) [
      | yes h ↦
          let e = digits_more u n some below fits a b top short own few h in
          rw (m, le-ltb u (n * 2 ^ (a - b)) h) (omega arith, omega (arith, e), omega (arith, e, w))
      | no h ↦
          let g = lt_of_not-le h in
          let e = digits_less u n some below fits a b top short own few g in
          rw (m, lt-ltb u (n * 2 ^ (a - b)) g) (omega (arith, e.0), e.1, omega (arith, e.1, w))
    ]

abbrev less : (c : After-digits-2) →
    let a = c.args in
    let k = c.digits.result - c.digits-2.result in
    let t = bool_byte (ltb a.u (a.n * 2 ^ k % 2 ^ 64)) in
    (t ≤ k) × (k - t ≡ width a.u a.n) × (k - t ≤ 31)
less c =
    let a = c.before.before in
    let d = c.digits.ensures in
    let e = c.digits-2.ensures in
    taken a.args.u a.args.n _ _ a.requires.0 a.requires.1 a.requires.2 d.0 d.1 e.0 e.1

pub overflow_sub-result : goal.overflow_sub-result
overflow_sub-result c = (less c).0

pub returns : goal.returns
returns c = ((less c).1, (less c).2)

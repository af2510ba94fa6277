-- Laws of the width of a list's low parts:
-- the powers of 2 about U / n, that only one width has them, and the lower run's bits.
use mathlib.Core.Path.{◌≡◌, sym, ap, ◌∙◌}
use Prim.Native.Nat.{ℕ, zero, suc, ◌-◌, ◌*◌, ◌/◌, ◌^◌, ◌≤◌, ◌<◌}
use native.Mathlib.Nat.{pow-suc, le_trans, lt_of_not-le, lt_irrefl, lt_of_lt_of_le, le_of_suc-le-suc}
use native.Mathlib.Nat.{le_antisymm, div-le_self, le-div_iff_mul-le, div-lt_iff_lt-mul, mul_comm, mul-le-mul_left}
use native.Mathlib.Nat.{le_of_lt, mul_right_comm, mul-div-le}
use native.Mathlib.Decide.{dec_le}
use native.Mathlib.Omega.{arith}
use borrow.Author.Tests.{le-leb, lt-leb}
use lib.Dec.{lit<}
use lib.Pow.{pow_mono, pow-add}
use Rattle.rules.specs.List.{greatest, width}

-- ---- the greatest power

pub greatest_is : (f q : ℕ) → 0 < q → q < 2 ^ suc f → (2 ^ greatest f q ≤ q) × (q < 2 ^ suc (greatest f q))
unfolding greatest
greatest_is zero q p h = (omega arith, h)
greatest_is (suc f) q p h =
    elim (dec_le (2 ^ suc f) q) [
      | yes a ↦ rw (le-leb (2 ^ suc f) q a, greatest) (a, h)
      | no b ↦ rw (lt-leb (2 ^ suc f) q (lt_of_not-le b), greatest) (greatest_is f q p (lt_of_not-le b))
    ]

-- of the powers of 2 up to q none is above that which passes q when doubled
pub power_le : (q r w : ℕ) → 2 ^ r ≤ q → q < 2 ^ suc w → r ≤ w
power_le q r w h g =
    le_of_suc-le-suc (lt_of_not-le (λ (l : suc w ≤ r). lt_irrefl q (lt_of_lt_of_le g (le_trans (pow_mono l) h))))

pub power_unique : (q r w : ℕ) → 2 ^ r ≤ q → q < 2 ^ suc r → 2 ^ w ≤ q → q < 2 ^ suc w → r ≡ w
power_unique q r w a b c d = le_antisymm (power_le q r w a d) (power_le q w r c b)

pub under_pow : (w : ℕ) → w < 2 ^ w
under_pow zero = lit< tt
under_pow (suc w) = rw pow-suc (omega (arith, under_pow w))

-- ---- the width

pub quotient_pos : (U n : ℕ) → 0 < n → n ≤ U → 0 < U / n
quotient_pos U n some below = (le-div_iff_mul-le some).1 (omega arith)

module _ (U n : ℕ) (some : 0 < n) (below : n ≤ U) (fits : U < 2 ^ 32) where
  pub width_is : (2 ^ width U n ≤ U / n) × (U / n < 2 ^ suc (width U n))
  unfolding width
  width_is = greatest_is 32 (U / n) (quotient_pos U n some below) (omega (arith, div-le_self U n))

  pub width_unique : (r : ℕ) → 2 ^ r ≤ U / n → U / n < 2 ^ suc r → r ≡ width U n
  width_unique r h g = power_unique (U / n) r (width U n) h g width_is.0 width_is.1

  -- a bound on U that is a power of 2 bounds the width
  pub width_le : (k : ℕ) → U < 2 ^ suc k → width U n ≤ k
  width_le k h = power_le (U / n) (width U n) k width_is.0 (omega (arith, div-le_self U n))

  -- the lower run has at most U bits
  pub low_bits : n * width U n ≤ U
  low_bits =
      le_trans (mul-le-mul_left n (le_trans (omega (arith, under_pow (width U n))) width_is.0)) (mul-div-le U n)

  -- by the binary digits of U and of n it is their difference, or one less
  module _ (a b : ℕ) (top : 2 ^ a ≤ 2 * U) (short : U < 2 ^ a) (own : 2 ^ b ≤ 2 * n) (few : n < 2 ^ b) where
    pub digits_le : b ≤ a
    digits_le = power_le (2 * U) b a (omega arith) (rw pow-suc (omega arith))

    both : 2 ^ (a - b) * 2 ^ b ≡ 2 ^ a
    both = sym (pow-add 2 (a - b) b) ∙ ap (λ (k : ℕ). 2 ^ k) (omega (arith, digits_le))

    -- n with so many zeros behind it is not much above U
    pub digits_near : n * 2 ^ (a - b) ≤ 2 * U
    digits_near = omega (arith, mul-le-mul_left (2 ^ (a - b)) (le_of_lt few), both, mul_comm n (2 ^ (a - b)))

    pub digits_more : n * 2 ^ (a - b) ≤ U → a - b ≡ width U n
    digits_more h =
        let t : 2 ^ a ≤ 2 ^ (a - b) * (2 * n) = rw (← both) (mul-le-mul_left (2 ^ (a - b)) own) in
        width_unique (a - b) ((le-div_iff_mul-le some).1 (omega (arith, mul_comm n (2 ^ (a - b)))))
        ((div-lt_iff_lt-mul some).1 (rw pow-suc (omega (arith, t, mul_comm n (2 ^ (a - b))))))

    pub digits_less : U < n * 2 ^ (a - b) → (0 < a - b) × (a - b - 1 ≡ width U n)
    digits_less h = go (a - b) both h
      where
        go : (k : ℕ) → 2 ^ k * 2 ^ b ≡ 2 ^ a → U < n * 2 ^ k → (0 < k) × (k - 1 ≡ width U n)
        go zero e g = absurd (omega (arith, below))
        go (suc k) e g =
            let p = ap (λ (x : ℕ). x * 2 ^ b) (pow-suc 2 k) ∙ mul_right_comm (2 ^ k) 2 (2 ^ b) in
            let t = mul-le-mul_left (2 ^ k) (le_of_lt few) in
            let w = width_unique k ((le-div_iff_mul-le some).1 (omega (arith, p, e, t)))
            ((div-lt_iff_lt-mul some).1 (omega (arith, g, mul_comm n (2 ^ suc k)))) in
            (omega arith, omega (arith, w))

-- Laws of the stored numbers near a rank's share of them.
use mathlib.Core.Path.{◌≡◌}
use mathlib.Core.List.{List}
use Prim.Native.Nat.{ℕ, zero, suc, ◌+◌, ◌-◌, ◌*◌, ◌/◌, ◌^◌, ◌≤◌, ◌<◌}
use native.Mathlib.Nat.{mul_comm, mul-le-mul, mul-le-mul_right, div-lt_iff_lt-mul}
use native.Mathlib.Omega.{arith}
use Rattle.readlaws.specs.Open.{number_at, HighEnd, Comparable}
use Rattle.readlaws.proofs.FormLaws.{number_first}

-- ---- the share

-- that of a rank below n is no more than the whole
pub share_le : (rank last n : ℕ) → rank < n → rank * last / n ≤ last
share_le rank last n h =
    let l : rank * last ≤ n * last = mul-le-mul_right last (omega arith) in
    let m : rank * last < (last + 1) * n = omega (arith, mul_comm n last) in
    let d : rank * last / n < last + 1 =
    (div-lt_iff_lt-mul {k = n} {x = rank * last} {y = last + 1} (omega arith)).1 m in
    omega arith

module _ (s : List ℕ) (last zeros rank : ℕ) (p : Comparable s last zeros rank) where
  pub share_fits : rank * last < 2 ^ 64
  share_fits =
      let m : rank * last ≤ 2 ^ 25 * 2 ^ 25 =
      mul-le-mul {n₁ = rank} {m₁ = last} {n₂ = 2 ^ 25} {m₂ = 2 ^ 25} (omega (arith, p.small))
      (omega (arith, p.few)) in
      omega arith

  -- the zeros that a number counts are few
  pub zeros_small : zeros * last ≤ 2 ^ 24
  zeros_small =
      let m : zeros * last ≤ 256 * 2 ^ 16 =
      mul-le-mul {n₁ = zeros} {m₁ = last} {n₂ = 256} {m₂ = 2 ^ 16} p.zeros_few p.few in
      omega arith

  -- a lower number can be compared too
  pub compares_lower : (i : ℕ) → i ≤ last → Comparable s i zeros rank
  compares_lower i l = record {
    stored = omega (arith, p.stored);
    few = omega (arith, p.few);
    zeros_few = p.zeros_few;
    small = p.small;
  }

-- ---- the ends of a search

module _ (s : List ℕ) (last zeros rank : ℕ) where
  -- number 0 is before every one
  pub first_before : number_at s 0 ≤ zeros * 0 + rank
  first_before = omega (arith, number_first s)

  -- so one with more ones before it has a lower one
  pub more_some : (i : ℕ) → zeros * i + rank < number_at s i → 0 < i
  more_some zero h = absurd (omega (arith, first_before, h))
  more_some (suc i) h = omega arith

  -- behind the last there is none
  pub last_ends : (i : ℕ) → i ≡ last → HighEnd s last zeros rank i
  last_ends i e = record { within = omega arith; beyond = λ h. absurd (omega arith) }

  -- below a number with more ones before it
  pub below_ends : (i : ℕ) → 0 < i → i ≤ last → zeros * i + rank < number_at s i → HighEnd s last zeros rank (i - 1)
  below_ends i some l more =
      let e : i - 1 + 1 ≡ i = omega arith in
      record { within = omega arith; beyond = λ h. rw e more }

-- Trailing zeros of what a shift leaves of a word: they are counted from the place that it was shifted by.
use mathlib.Core.Path.{◌≡◌, sym, ap, ◌∙◌, subst}
use mathlib.Core.Logic.{inl, inr}
use Prim.Native.Nat.{ℕ, zero, suc, ◌+◌, ◌-◌, ◌*◌, ◌/◌, ◌%◌, ◌^◌, ◌<◌}
use native.Mathlib.Nat.{not-suc-le-zero, le_of_suc-le-suc}
use native.Mathlib.Omega.{arith}
use lib.Count.{count_trailing_zeros}
use lib.Pow.{shr_lt}
use Rattle.laws.proofs.BitLaws.{digit, tz_lt}
use Rattle.fields.proofs.WordLaws.{place_trailing, place_shl}

-- more bits above the first one change nothing
tz_wide : (k m n : ℕ) → count_trailing_zeros k n < k → count_trailing_zeros (k + m) n ≡ count_trailing_zeros k n
unfolding count_trailing_zeros
tz_wide zero m n h = absurd (not-suc-le-zero h)
tz_wide (suc k) m n h =
    let s : suc k + m ≡ suc (k + m) = omega arith in
    elim (digit n) [
      | inl e ↦ rw (s, e, count_trailing_zeros) (ap suc (tz_wide k m (n / 2) (le_of_suc-le-suc (rw (e, count_trailing_zeros) at h))))
      | inr e ↦ rw (s, e, count_trailing_zeros)
    ]

tz_shl : (j k y : ℕ) → count_trailing_zeros (j + k) (y * 2 ^ j) ≡ j + count_trailing_zeros k y
tz_shl j k y =
    place_trailing (j + k) (y * 2 ^ j) ∙ place_shl j k y 0 ∙ ap (λ (p : ℕ). j + p) (sym (place_trailing k y))

-- an odd number has none
pub tz_odd : (k n : ℕ) → n % 2 ≡ 1 → count_trailing_zeros (suc k) n ≡ 0
unfolding count_trailing_zeros
tz_odd k n e = rw (e, count_trailing_zeros)

-- those of a word with 0 for its j low bits
pub tz_from : (x j : ℕ) → x < 2 ^ 64 → j < 64 → 0 < x / 2 ^ j
    → count_trailing_zeros 64 (x / 2 ^ j * 2 ^ j) ≡ j + count_trailing_zeros 64 (x / 2 ^ j)
tz_from x j l h some =
    let s : j + (64 - j) ≡ 64 = omega arith in
    let d : 64 - j + j ≡ 64 = omega arith in
    let few : x / 2 ^ j < 2 ^ (64 - j) = shr_lt {n = x} (64 - j) j (rw d l) in
    let wide : count_trailing_zeros 64 (x / 2 ^ j) ≡ count_trailing_zeros (64 - j) (x / 2 ^ j) =
    subst (λ (k : ℕ). count_trailing_zeros k (x / 2 ^ j) ≡ count_trailing_zeros (64 - j) (x / 2 ^ j)) d
    (tz_wide (64 - j) j (x / 2 ^ j) (tz_lt (64 - j) (x / 2 ^ j) some few)) in
    subst (λ (k : ℕ). count_trailing_zeros k (x / 2 ^ j * 2 ^ j) ≡ j + count_trailing_zeros (64 - j) (x / 2 ^ j)) s
    (tz_shl j (64 - j) (x / 2 ^ j))
    ∙ ap (λ (p : ℕ). j + p) (sym wide)

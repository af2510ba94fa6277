-- Laws of an element as a pair of its high and its low part: pairs are in order as elements are.
use mathlib.Core.Path.{◌≡◌, sym, ap, ◌∙◌}
use Prim.Native.Nat.{ℕ, zero, suc, ◌+◌, ◌*◌, ◌/◌, ◌%◌, ◌^◌, ◌≤◌, ◌<◌}
use native.Mathlib.Nat.{mod-lt, lt_of_lt_of_le}
use native.Mathlib.Numerals.{add-one}
use native.Mathlib.Decide.{dec_lt}
use native.Mathlib.Omega.{arith}
use borrow.Author.Tests.{lt-ltb, le-ltb, le-leb, lt-leb}
use lib.Dec.{leb, ltb}
use lib.Pow.{pow_pos, pow_mono, shl_exact, shr_mono, split, high, low}
use Rattle.checklaws.specs.Check.{pair_of, last_of}

pub pair_is : (w h p : ℕ) → p < 2 ^ w → pair_of w (h * 2 ^ w + p) ≡ (h + 64) * 2 ^ 32 + p
unfolding pair_of
pair_is w h p l = rw (high h w l, low h w l)

-- the two parts of a pair side by side
pub pair_shl : (high low : ℕ) → high < 2 ^ 27 → (high * 2 ^ 32) % 2 ^ 64 + low ≡ high * 2 ^ 32 + low
pair_shl high low h = ap (λ (x : ℕ). x + low) (shl_exact 27 32 64 h (omega arith))

-- the low part of the bound, as the machine makes it
module _ (w u low : ℕ) (l : low ≡ (0 * 2 ^ 64 + u) / 2 ^ 0 % 2 ^ w) where
  low_is : low ≡ u % 2 ^ w
  low_is =
      let e : (0 * 2 ^ 64 + u) / 2 ^ 0 ≡ u = omega arith in
      l ∙ ap (λ (x : ℕ). x % 2 ^ w) e

  pub bound_low : w ≤ 32 → low < 2 ^ 32
  bound_low n = rw low_is (lt_of_lt_of_le (mod-lt u (pow_pos w)) (pow_mono n))

  pub bound_pair : (u / 2 ^ w + 64) * 2 ^ 32 + low ≡ pair_of w u
  unfolding pair_of
  bound_pair = rw low_is

pub last_one : (w x : ℕ) → pair_of w x ≡ last_of w (x + 1)
unfolding last_of
last_one w x = rw add-one

module _ (w : ℕ) (narrow : w ≤ 32) where
  pair_lt : (x y : ℕ) → x < y → pair_of w x < pair_of w y
  unfolding pair_of
  pair_lt x y h =
      let b : x % 2 ^ w < 2 ^ 32 = lt_of_lt_of_le (mod-lt x (pow_pos w)) (pow_mono narrow) in
      let le : x / 2 ^ w ≤ y / 2 ^ w = shr_mono w (omega arith) in
      elim (dec_lt (x / 2 ^ w) (y / 2 ^ w)) [
        | yes u ↦ omega arith
        | no u ↦
            let e : y / 2 ^ w ≡ x / 2 ^ w = omega arith in
            let p = split x w in
            let q : x / 2 ^ w * 2 ^ w + y % 2 ^ w ≡ y = rw e at (split y w) in
            omega (arith, p, q, e)
      ]

  -- what is tested of two elements in a row, and of the last element and the bound
  pub last_ltb : (m x : ℕ) → ltb (last_of w m) (pair_of w x) ≡ leb m x
  unfolding last_of
  last_ltb zero x = unfold pair_of in rw (lt-ltb 0 ((x / 2 ^ w + 64) * 2 ^ 32 + x % 2 ^ w) (omega arith)) (sym (le-leb 0 x (omega arith)))
  last_ltb (suc y) x = elim (dec_lt y x) [
    | yes h ↦ rw (lt-ltb (pair_of w y) (pair_of w x) (pair_lt y x h)) (sym (le-leb (suc y) x h))
    | no h ↦ rw (le-ltb (pair_of w y) (pair_of w x) (not_below y x (omega arith))) (sym (lt-leb (suc y) x (omega arith)))
  ]
    where
      not_below : (y x : ℕ) → x ≤ y → pair_of w x ≤ pair_of w y
      not_below y x h = elim (dec_lt x y) [
        | yes u ↦ omega (arith, pair_lt x y u)
        | no u ↦
            let e : x ≡ y = omega arith in
            rw e (omega arith)
      ]

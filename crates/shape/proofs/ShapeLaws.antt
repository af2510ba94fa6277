-- What a shape is, and what bounds its fields.
use mathlib.Core.Bool.{true, false}
use mathlib.Core.Path.{◌≡◌, refl}
use Prim.Native.Nat.{ℕ, zero, suc, ◌+◌, ◌*◌, ◌/◌, ◌^◌, ◌≤◌, ◌<◌}
use native.Mathlib.Nat.{lt_of_not-le}
use native.Mathlib.Decide.{dec_le}
use native.Mathlib.Omega.{arith}
use borrow.Author.Tests.{le-ltb, lt-ltb, le-leb, lt-leb, ne_eqb}
use lib.Dec.{ltb, eqb}
use lib.Pow.{shr_le}
use Rattle.rules.specs.Limits.{limit, map_version, map_edition, list_header}
use Rattle.rules.specs.List.{greatest, width, zeros, lower_at, upper_at, size}
use Rattle.rules.specs.List.{Form, two_runs, bitmap, dense, form_of, form_version, form_size}
use Rattle.laws.proofs.WidthLaws.{width_le, low_bits}
use Rattle.shape.specs.Shape.{shape_of, map_width, map_shape, form_shape}

pub shape_none : (U n : ℕ) → n ≡ 0 → shape_of U n ≡ record {
  u = U;
  n = n;
  w = 0;
  bits = 0;
  lower = list_header;
  upper = list_header;
  end = list_header;
}
unfolding shape_of
shape_none U n e = rw e

pub shape_some : (U n : ℕ) → 0 < n → shape_of U n ≡ record {
  u = U;
  n = n;
  w = width U n;
  bits = n + zeros U (width U n);
  lower = lower_at U (width U n);
  upper = upper_at U n (width U n);
  end = size U n;
}
unfolding shape_of
shape_some U zero h = absurd (omega arith)
shape_some U (suc m) h = refl

-- what a shape keeps and ends with, for any n
module _ (U : ℕ) where
  pub shape_u : (n : ℕ) → (shape_of U n).u ≡ U
  unfolding shape_of
  shape_u zero = refl
  shape_u (suc n) = refl

  pub shape_n : (n : ℕ) → (shape_of U n).n ≡ n
  unfolding shape_of
  shape_n zero = refl
  shape_n (suc n) = refl

  pub shape_end : (n : ℕ) → (shape_of U n).end ≡ size U n
  unfolding shape_of size
  shape_end zero = refl
  shape_end (suc n) = refl

-- n elements below U, and n not 0
pub record Bounded (U n : ℕ) : Type 0 where
  pub narrow : width U n ≤ 24
  pub few : zeros U (width U n) ≤ U
  pub short : n * width U n ≤ U

pub bounded : (U n : ℕ) → 0 < n → n ≤ U → U ≤ limit → Bounded U n
unfolding zeros
bounded U n some below within = record {
  narrow = width_le U n some below (omega arith) 24 (omega arith);
  few = shr_le U (width U n);
  short = low_bits U n some below (omega arith);
}

-- ---- forms

pub form_shape_u : (o : Form) (U n : ℕ) → (form_shape o U n).u ≡ U
unfolding map_shape
form_shape_u two_runs U n = shape_u U n
form_shape_u bitmap U n = refl

pub form_shape_n : (o : Form) (U n : ℕ) → (form_shape o U n).n ≡ n
unfolding map_shape
form_shape_n two_runs U n = shape_n U n
form_shape_n bitmap U n = refl

pub form_shape_end : (o : Form) (U n : ℕ) → (form_shape o U n).end ≡ form_size o U n
unfolding map_shape
form_shape_end two_runs U n = shape_end U n
form_shape_end bitmap U n = refl

greatest_le : (f q : ℕ) → greatest f q ≤ f
unfolding greatest
greatest_le zero q = omega arith
greatest_le (suc f) q =
    elim (dec_le (2 ^ suc f) q) [
      | yes a ↦ rw (le-leb (2 ^ suc f) q a, greatest) (omega arith)
      | no b ↦ rw (lt-leb (2 ^ suc f) q (lt_of_not-le b), greatest) (omega (arith, greatest_le f q))
    ]

width_least : (U n : ℕ) → (shape_of U n).w < map_width
unfolding shape_of width
width_least U zero = omega arith
width_least U (suc m) = omega (arith, greatest_le 32 (U / suc m))

-- the width tells the form
pub form_wide : (o : Form) (U n : ℕ) → (form_shape o U n).w ≡ map_width → o ≡ bitmap
form_wide two_runs U n e = absurd (omega (arith, e, width_least U n))
form_wide bitmap U n e = refl

pub form_narrow : (o : Form) (U n : ℕ) → ((form_shape o U n).w ≡ map_width → ⊥) → o ≡ two_runs
unfolding map_shape
form_narrow two_runs U n d = refl
form_narrow bitmap U n d = absurd (d refl)

-- and so does the version
pub width_tells : (o : Form) (U n : ℕ) → eqb (form_shape o U n).w map_width ≡ eqb (form_version o) map_version
unfolding map_shape
width_tells two_runs U n = ne_eqb (shape_of U n).w map_width (λ e. omega (arith, e, width_least U n))
width_tells bitmap U n = refl

-- density is told by the shape in two runs
pub dense_shape : (U n : ℕ) → ltb U ((shape_of U n).bits + n * (shape_of U n).w) ≡ dense U n
unfolding dense shape_of
dense_shape U zero = le-ltb U 0 (omega arith)
dense_shape U (suc m) = rw (lt-ltb 0 (suc m) (omega arith))

-- and the bits of both runs are few
pub shape_few : (U n : ℕ) → n ≤ U → U ≤ limit → ((shape_of U n).bits ≤ 2 * U) × (n * (shape_of U n).w ≤ U)
unfolding shape_of
shape_few U zero b l = (omega arith, omega arith)
shape_few U (suc m) b l =
    let s = bounded U (suc m) (omega arith) b l in
    (omega (arith, s.few), s.short)

module _ (v U n : ℕ) where
  pub form_before : v < map_edition → form_of v U n ≡ two_runs
  unfolding form_of
  form_before h = rw (lt-leb map_edition v h)

  pub form_dense : map_edition ≤ v → dense U n ≡ true → form_of v U n ≡ bitmap
  unfolding form_of
  form_dense h d = rw (le-leb map_edition v h, d)

  pub form_sparse : map_edition ≤ v → dense U n ≡ false → form_of v U n ≡ two_runs
  unfolding form_of
  form_sparse h d = rw (le-leb map_edition v h, d)

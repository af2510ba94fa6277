-- Laws of a word without its first ones: the whole word, the bits from a place on, and the lowest one taken away.
use mathlib.Core.Path.{◌≡◌, sym, ap, ◌∙◌}
use mathlib.Core.Logic.{inl, inr}
use Prim.Native.Nat.{ℕ, zero, suc, ◌+◌, ◌-◌, ◌*◌, ◌/◌, ◌%◌, ◌^◌, ◌≤◌, ◌<◌}
use native.Mathlib.Nat.{zero-add, add-zero, mod-eq_of_lt, div-mul-le_self}
use native.Mathlib.Decide.{dec_lt}
use native.Mathlib.Omega.{arith}
use lib.Bits.{bit_and, and_le_l}
use lib.Count.{ones, ones_step, count_trailing_zeros}
use Rattle.laws.proofs.CountLaws.{ones_parts}
use Rattle.fields.specs.Words.{place_of_one}
use Rattle.fields.proofs.WordLaws.{place_trailing, place_shl, place_none, place_some, place_high}
use Rattle.selectlaws.proofs.SelectLaws.{place_drop}
use Rattle.walklaws.specs.Walks.{Rest}
use Rattle.laws.proofs.BitLaws.{digit}

-- a number with bits has a one
ones_pos : (k y : ℕ) → 0 < y → y < 2 ^ k → 0 < ones y
ones_pos zero y h l = absurd (omega arith)
ones_pos (suc k) y h l =
    elim (digit y) [
      | inl e ↦ omega (arith, ones_step y, ones_pos k (y / 2) (omega arith) (omega arith))
      | inr e ↦ omega (arith, ones_step y)
    ]

-- the count decides whether a word has a one number j
places_end : (x j : ℕ) → x < 2 ^ 64 → ones x ≤ j → place_of_one 64 x j ≡ 64
places_end x j l h = place_none 64 x j (rw (mod-eq_of_lt l) h)

places_some : (x j : ℕ) → x < 2 ^ 64 → j < ones x → place_of_one 64 x j < 64
places_some x j l h = place_some 64 x j (rw (mod-eq_of_lt l) h)

places_none : (x j : ℕ) → x < 2 ^ 64 → place_of_one 64 x j ≡ 64 → ones x ≤ j
places_none x j l e = elim (dec_lt j (ones x)) [
  | yes h ↦ absurd (omega (arith, places_some x j l h))
  | no h ↦ omega arith
]

module _ (x y i : ℕ) (r : Rest x y i) where
  rest_count : ones y + i ≡ ones x
  rest_count =
      let d : ℕ = ones x - i in
      let e : i + d ≡ ones x = omega (arith, r.within) in
      let a : ones x ≤ i + ones y = places_none x (i + ones y) r.whole
      (sym (r.places (ones y)) ∙ places_end y (ones y) r.fits (omega arith)) in
      let b : ones y ≤ d = places_none y d r.fits (r.places d ∙ places_end x (i + d) r.whole (omega arith)) in
      omega arith

  pub rest_none : y ≡ 0 → i ≡ ones x
  unfolding ones
  rest_none e = omega (arith, rest_count, ap ones e)

  -- one number j of what is left is one number i + j
  rest_place : (j : ℕ) → j < ones y → (place_of_one 64 x (i + j) < 64) × (place_of_one 64 y j ≡ place_of_one 64 x (i + j))
  rest_place j h = (places_some x (i + j) r.whole (omega (arith, rest_count)), r.places j)

  -- and trailing zeros tell the first
  pub rest_first : 0 < y → (place_of_one 64 x i < 64) × (count_trailing_zeros 64 y ≡ place_of_one 64 x i)
  rest_first h =
      let t = rest_place 0 (ones_pos 64 y h r.fits) in
      (rw (add-zero i) at t.0, place_trailing 64 y ∙ t.1 ∙ rw (add-zero i))

  pub rest_drop : 0 < y → Rest x (bit_and y (y - 1)) (i + 1)
  rest_drop h = record {
    whole = r.whole;
    fits = omega (arith, r.fits, and_le_l y (y - 1));
    within = omega (arith, rest_count, ones_pos 64 y h r.fits);
    places = λ j.
        let e : i + suc j ≡ i + 1 + j = omega arith in
        place_drop 64 y j h ∙ r.places (suc j) ∙ rw e;
  }

pub rest_all : (x : ℕ) → x < 2 ^ 64 → Rest x x 0
rest_all x l = record { whole = l; fits = l; within = omega arith; places = λ j. rw (zero-add j) }

-- the bits from place f on
pub rest_from : (x f : ℕ) → x < 2 ^ 64 → f ≤ 64 → Rest x (x / 2 ^ f * 2 ^ f) (ones (x % 2 ^ f))
rest_from x f l h =
    let e : f + (64 - f) ≡ 64 = omega arith in
    record {
      whole = l;
      fits = omega (arith, div-mul-le_self x (2 ^ f));
      within = omega (arith, rw (e, mod-eq_of_lt l) at (ones_parts x f (64 - f)));
      places = λ j. rw e at (place_shl f (64 - f) (x / 2 ^ f) j ∙ sym (place_high f (64 - f) x j));
    }

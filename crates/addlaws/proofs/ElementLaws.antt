-- Laws of the elements that a list gives above a base, laid one after the other: their numbers in the two runs,
-- that they climb, and that what they fill lies within its run.
use mathlib.Core.Path.{◌≡◌, refl, sym, ap, ◌∙◌}
use mathlib.Core.List.{List, [], ◌∷◌, ◌++◌}
use Prim.Native.Nat.{ℕ, zero, suc, ◌+◌, ◌*◌, ◌/◌, ◌%◌, ◌^◌, ◌≤◌, ◌<◌}
use native.Mathlib.Nat.{mul-le-mul_right}
use native.Mathlib.Numerals.{add-one}
use native.Mathlib.Omega.{arith}
use lib.ListN.{length, get_or, take, drop, length-drop}
use lib.Pow.{shr_mono}
use lib.Seq.{length-take-le}
use Rattle.rules.specs.Runs.{words_for}
use Rattle.rules.specs.List.{zeros, lower, upper}
use Rattle.rules.specs.Term.{raised}
use Rattle.shape.specs.declared.Shape.{Shape}
use Rattle.listlaws.proofs.RisingLaws.{rising_at, rising_gap}
use Rattle.termlaws.proofs.PlaceLaws.{length_raised}
use Rattle.filllaws.proofs.SideLaws.{sides, zeros_of, lower_snoc, upper_snoc}
use Rattle.wordlaws.proofs.StretchLaws.{get_d_raised}
use Rattle.addlaws.specs.Adding.{reach, Asked}

-- ---- the elements

module _ (b : ℕ) where
  given_more : (xs : List ℕ) (j : ℕ) → j < length xs
      → raised b (take (suc j) xs) ≡ raised b (take j xs) ++ ((b + get_or xs j 0) ∷ [])
  unfolding raised
  given_more [] j h = absurd (omega arith)
  given_more (x ∷ xs) zero h = refl
  given_more (x ∷ xs) (suc j) h = ap (λ (l : List ℕ). (b + x) ∷ l) (given_more xs j (omega arith))

  length_first : (xs : List ℕ) (j : ℕ) → j ≤ length xs → length (raised b (take j xs)) ≡ j
  length_first xs j h = length_raised b (take j xs) ∙ length-take-le j xs h

  -- one element more in each run
  module _ (w i : ℕ) (xs : List ℕ) (j : ℕ) (h : j < length xs) where
    pub lower_more : lower w i (raised b (take (j + 1) xs))
        ≡ lower w i (raised b (take j xs)) + (b + get_or xs j 0) % 2 ^ w * 2 ^ ((i + j) * w)
    lower_more =
        rw (add-one, given_more xs j h)
        (lower_snoc w i (raised b (take j xs)) (b + get_or xs j 0)
        ∙ rw (length_first xs j (omega arith)))

    pub upper_more : upper w i (raised b (take (j + 1) xs))
        ≡ upper w i (raised b (take j xs)) + 2 ^ ((b + get_or xs j 0) / 2 ^ w + (i + j))
    upper_more =
        rw (add-one, given_more xs j h)
        (upper_snoc w i (raised b (take j xs)) (b + get_or xs j 0)
        ∙ rw (length_first xs j (omega arith)))

pub lower_first : (w i b : ℕ) (xs : List ℕ) → lower w i (raised b (take 0 xs)) ≡ 0
unfolding lower raised
lower_first w i b xs = refl

pub upper_first : (w i b : ℕ) (xs : List ℕ) → upper w i (raised b (take 0 xs)) ≡ 0
unfolding upper raised
upper_first w i b xs = refl

pub reach_none : (w i b : ℕ) (xs : List ℕ) → reach w i b xs 0 ≡ 0
unfolding reach
reach_none w i b xs = refl

-- ---- within their runs

module _ {g : Shape} {i b : ℕ} {xs d : List ℕ} (a : Asked g i b xs d) where
  -- element j is below U
  pub given_below : (j : ℕ) → j < length xs → b + get_or xs j 0 < g.u
  given_below j h =
      rw (← get_d_raised b xs j h)
      (rising_at 0 g.u (raised b xs) a.rises j (omega (arith, length_raised b xs))).1

  -- the place of element j is behind those of the elements before it
  pub reach_le : (j : ℕ) → j < length xs → reach g.w i b xs j ≤ (b + get_or xs j 0) / 2 ^ g.w + (i + j)
  unfolding reach
  reach_le zero h = omega arith
  reach_le (suc j) h =
      let n : j + 1 < length (raised b xs) = omega (arith, length_raised b xs) in
      let r = rw (add-one j) at (rising_gap 0 g.u (raised b xs) a.rises j 1 n) in
      let e : b + get_or xs j 0 < b + get_or xs (suc j) 0 =
      omega (arith, r, get_d_raised b xs j (omega arith), get_d_raised b xs (suc j) h) in
      let m : (b + get_or xs j 0) / 2 ^ g.w ≤ (b + get_or xs (suc j) 0) / 2 ^ g.w = shr_mono g.w (omega (arith, e)) in
      omega (arith, m)

  pub reach_more : (j : ℕ) → (b + get_or xs j 0) / 2 ^ g.w + (i + j) + 1 ≡ reach g.w i b xs (j + 1)
  unfolding reach
  reach_more j =
      let e : (b + get_or xs j 0) / 2 ^ g.w + (i + j) + 1 ≡ reach g.w i b xs (suc j) = omega arith in
      e ∙ ap (reach g.w i b xs) (sym (add-one j))

  -- sums and products that are made of an element fit a machine word
  pub given_small : (g.w ≤ 24) × (g.u ≤ 2 ^ 24) × (i + length xs ≤ 2 ^ 24) × (i * g.w ≤ 2 ^ 24)
  given_small =
      let t = sides g d a.fitting in
      let m : i * g.w ≤ g.n * g.w = mul-le-mul_right g.w (omega (arith, a.few)) in
      (t.narrow, omega (arith, a.fitting.within), omega (arith, t.many, a.few), omega (arith, t.short, m))

  -- the low parts up to element j's are in the lower run's words
  pub lower_in : (j : ℕ) → i + j ≤ g.n → (i + j) * g.w ≤ 64 * words_for (g.n * g.w)
  unfolding words_for
  lower_in j h =
      let m : (i + j) * g.w ≤ g.n * g.w = mul-le-mul_right g.w h in
      omega (arith, m)

  -- its place is one of the upper run's bits
  place_lt : (j : ℕ) → j < length xs → (b + get_or xs j 0) / 2 ^ g.w + (i + j) < g.bits
  unfolding zeros
  place_lt j h =
      let t = sides g d a.fitting in
      let z = zeros_of g d a.fitting (omega (arith, a.few)) in
      let m : (b + get_or xs j 0) / 2 ^ g.w ≤ g.u / 2 ^ g.w = shr_mono g.w (omega (arith, given_below j h)) in
      omega (arith, t.bits, z, m, a.few)

  pub reach_in : (j : ℕ) → j ≤ length xs → reach g.w i b xs j ≤ 64 * words_for g.bits
  unfolding reach words_for
  reach_in zero h = omega arith
  reach_in (suc j) h = omega (arith, place_lt j (omega arith))

  -- the upper run's words, and so that of the place, are in the block
  pub upper_long : 8 * words_for g.bits ≤ length (drop g.upper d)
  upper_long =
      let t = sides g d a.fitting in
      rw length-drop (omega (arith, rw (← t.bits) at t.end, a.fitting.room))

  pub upper_room : (j : ℕ) → j < length xs
      → 8 * (((b + get_or xs j 0) / 2 ^ g.w + (i + j)) / 64) + 8 ≤ length (drop g.upper d)
  unfolding words_for
  upper_room j h = omega (arith, place_lt j h, upper_long)

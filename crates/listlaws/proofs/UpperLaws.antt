-- Laws of the upper run's number for a rising list: where its ones are, how many lie below a place, and how long it is.
use mathlib.Core.Bool.{true}
use mathlib.Core.Path.{◌≡◌, sym, ap, ◌∙◌}
use mathlib.Core.List.{List, [], ◌∷◌}
use Prim.Native.Nat.{ℕ, zero, suc, ◌+◌, ◌-◌, ◌*◌, ◌/◌, ◌^◌, ◌≤◌, ◌<◌}
use native.Mathlib.Nat.{zero-add, add-zero, add-suc, add_comm, mul_comm, mul_assoc, add-mul}
use native.Mathlib.Nat.{one-mul, zero-mul, pow-suc, le-div_iff_mul-le, div-mul-le_self}
use native.Mathlib.Omega.{arith}
use lib.Dec.{lit<}
use lib.ListN.{length, get_or}
use lib.Pow.{pow-add, pow_pos, pow-lt, shl-shr, shr_mono}
use Rattle.rules.specs.Runs.{bit}
use Rattle.rules.specs.List.{upper, rising, zeros}
use Rattle.laws.proofs.BitLaws.{bit_above, bit_cleared, bit_high, filled_lt}
use Rattle.laws.proofs.CountLaws.{ones_more}
use Rattle.listlaws.specs.Sound.{ones_to}
use Rattle.listlaws.proofs.AfterLaws.{ones_none}
use Rattle.listlaws.proofs.RisingLaws.{rising_parts, rising_at}

-- ---- 2 ^ c + q * 2 ^ (c + 1)

first_shape : (q c : ℕ) → 2 ^ c + q * 2 ^ suc c ≡ (q * 2 + 1) * 2 ^ c
first_shape q c = rw (pow-suc, mul_comm (2 ^ c) 2, ← mul_assoc, add-mul, one-mul) (add_comm (2 ^ c) (q * 2 * 2 ^ c))

first_below : (q c p : ℕ) → p < c → bit (2 ^ c + q * 2 ^ suc c) p ≡ 0
first_below q c p h = rw first_shape (bit_cleared (q * 2 + 1) c p h)

first_here : (q c : ℕ) → bit (2 ^ c + q * 2 ^ suc c) c ≡ 1
unfolding bit
first_here q c = rw (first_shape, shl-shr) (omega arith)

first_above : (q c p : ℕ) → c < p → bit (2 ^ c + q * 2 ^ suc c) p ≡ bit (q * 2 ^ suc c) p
first_above q c p h =
    let e : suc c + (p - suc c) ≡ p = omega arith in
    let a : bit (q * 2 ^ suc c + 2 ^ c) (suc c + (p - suc c)) ≡ bit q (p - suc c) =
    bit_high q (2 ^ c) (suc c) (p - suc c) (pow-lt (omega arith)) in
    let b : bit (q * 2 ^ suc c + 0) (suc c + (p - suc c)) ≡ bit q (p - suc c) =
    bit_high q 0 (suc c) (p - suc c) (pow_pos (suc c)) in
    rw (e, add_comm (q * 2 ^ suc c) (2 ^ c)) at a ∙ sym (rw (e, add-zero (q * 2 ^ suc c)) at b)

-- ---- counts of two numbers with the same bits

ones_shift : (u v m a d : ℕ) → ones_to u a ≡ m + ones_to v a → ((p : ℕ) → a ≤ p → p < a + d → bit u p ≡ bit v p)
    → ones_to u (a + d) ≡ m + ones_to v (a + d)
ones_shift u v m a zero e b = rw add-zero e
ones_shift u v m a (suc d) e b =
    rw add-suc (omega (
      arith,
      ones_more u (a + d),
      ones_more v (a + d),
      b (a + d) (omega arith) (omega arith),
      ones_shift u v m a d e (λ p l h. b p l (omega arith)),
    ))

pub ones_clear : (u p : ℕ) → ((i : ℕ) → i < p → bit u i ≡ 0) → ones_to u p ≡ 0
ones_clear u zero z = ones_none u
ones_clear u (suc p) z = omega (arith, ones_more u p, z p (omega arith), ones_clear u p (λ i h. z i (omega arith)))

-- ---- the upper run, from element number i on

module _ (w : ℕ) where
  pub upper_none : (i p : ℕ) → bit (upper w i []) p ≡ 0
  unfolding upper
  upper_none i p = bit_above 0 0 p (lit< tt) (omega arith)

  -- every element is at or above place h + i
  upper_shape : (U lo : ℕ) (xs : List ℕ) (h i : ℕ) → rising lo U xs ≡ true → h * 2 ^ w ≤ lo
      → (q : ℕ) × (upper w i xs ≡ q * 2 ^ (h + i))
  unfolding upper
  upper_shape U lo [] h i r l = (0, sym (zero-mul (2 ^ (h + i))))
  upper_shape U lo (x ∷ xs) h i r l =
      let t = rising_parts lo U x xs r in
      let c : ℕ = x / 2 ^ w in
      let g : h ≤ c = (le-div_iff_mul-le (pow_pos w)).1 (omega (arith, t.0)) in
      let ih = upper_shape U (x + 1) xs c (i + 1) t.2 (omega (arith, div-mul-le_self x (2 ^ w))) in
      let e : c + (i + 1) ≡ suc (c + i) = omega arith in
      let ih' = rw e at ih.1 in
      let d : c + i ≡ (c - h) + (h + i) = omega arith in (
        (ih.0 * 2 + 1) * 2 ^ (c - h),
        rw (ih', first_shape ih.0 (c + i), d, pow-add) (sym (mul_assoc (ih.0 * 2 + 1) (2 ^ (c - h)) (2 ^ (h + i)))),
      )

  module _ (U lo x : ℕ) (xs : List ℕ) (i : ℕ) (r : rising lo U (x ∷ xs) ≡ true) where
    abbrev place : ℕ
    place = x / 2 ^ w + i

    rest_shape : (q : ℕ) × (upper w (i + 1) xs ≡ q * 2 ^ suc place)
    rest_shape =
        let e : x / 2 ^ w + (i + 1) ≡ suc place = omega arith in
        let t = upper_shape U (x + 1) xs (x / 2 ^ w) (i + 1) (rising_parts lo U x xs r).2
        (omega (arith, div-mul-le_self x (2 ^ w))) in
        (t.0, rw e at t.1)

    pub upper_below : (p : ℕ) → p < place → bit (upper w i (x ∷ xs)) p ≡ 0
    unfolding upper
    upper_below p h = rw rest_shape.1 (first_below rest_shape.0 place p h)

    pub upper_here : bit (upper w i (x ∷ xs)) place ≡ 1
    unfolding upper
    upper_here = rw rest_shape.1 (first_here rest_shape.0 place)

    pub upper_above : (p : ℕ) → place < p → bit (upper w i (x ∷ xs)) p ≡ bit (upper w (i + 1) xs) p
    unfolding upper
    upper_above p h = rw rest_shape.1 (first_above rest_shape.0 place p h)

    rest_below : (p : ℕ) → p ≤ place → bit (upper w (i + 1) xs) p ≡ 0
    rest_below p h = rw rest_shape.1 (bit_cleared rest_shape.0 (suc place) p (omega arith))

    ones_here : ones_to (upper w i (x ∷ xs)) place ≡ 0
    ones_here = ones_clear (upper w i (x ∷ xs)) place upper_below

    -- past the first element there is one more below than in the rest
    ones_past : (p : ℕ) → place < p → ones_to (upper w i (x ∷ xs)) p ≡ suc (ones_to (upper w (i + 1) xs) p)
    ones_past p h =
        let e : suc place + (p - suc place) ≡ p = omega arith in
        let a = ones_more (upper w i (x ∷ xs)) place in
        let b = ones_clear (upper w (i + 1) xs) (suc place) (λ j l. rest_below j (omega arith)) in
        let t = rw e at (ones_shift (upper w i (x ∷ xs)) (upper w (i + 1) xs) 1 (suc place) (p - suc place)
        (omega (arith, a, upper_here, ones_here, b)) (λ j l g. upper_above j (omega arith))) in
        omega (arith, t)

    upper_first_lt : (m : ℕ) → place < m → upper w (i + 1) xs < 2 ^ m → upper w i (x ∷ xs) < 2 ^ m
    unfolding upper
    upper_first_lt m h l =
        rw (rest_shape.1, add_comm (2 ^ place) (rest_shape.0 * 2 ^ suc place)) (filled_lt rest_shape.0 (2 ^ place)
        (suc place) m (omega arith) (pow-lt (omega arith)) (rw rest_shape.1 at l))

  module _ (U : ℕ) where
    -- the bit of element number i + j, below which are j ones
    pub upper_at_lem : (lo i : ℕ) (xs : List ℕ) → rising lo U xs ≡ true → (j : ℕ) → j < length xs
        → (bit (upper w i xs) (get_or xs j 0 / 2 ^ w + (i + j)) ≡ 1)
        × (ones_to (upper w i xs) (get_or xs j 0 / 2 ^ w + (i + j)) ≡ j)
    upper_at_lem lo i [] r j h = absurd (omega arith)
    upper_at_lem lo i (x ∷ xs) r zero h = rw (add-zero i) (upper_here U lo x xs i r, ones_here U lo x xs i r)
    upper_at_lem lo i (x ∷ xs) r (suc j) h =
        let t = rising_parts lo U x xs r in
        let ih = upper_at_lem (x + 1) (i + 1) xs t.2 j (omega arith) in
        let e : i + 1 + j ≡ i + suc j = omega arith in
        let p : ℕ = get_or xs j 0 / 2 ^ w + (i + suc j) in
        let g : x / 2 ^ w + i < p = omega (
          arith,
          shr_mono {a = x} {b = get_or xs j 0} w (omega (arith, (rising_at (x + 1) U xs t.2 j (omega arith)).0)),
        ) in
        let ih' = rw e at ih in
        (upper_above U lo x xs i r p g ∙ ih'.0, ones_past U lo x xs i r p g ∙ ap suc ih'.1)

    -- the bits from zeros + i + length xs on are 0, and below them every element has its one
    pub upper_ones : (lo i : ℕ) (xs : List ℕ) → rising lo U xs ≡ true → (m : ℕ) → zeros U w + i + length xs ≤ m
        → (upper w i xs < 2 ^ m) × (ones_to (upper w i xs) m ≡ length xs)
    unfolding upper zeros
    upper_ones lo i [] r m h = (pow_pos m, ones_clear (upper w i []) m (λ j l. upper_none i j))
    upper_ones lo i (x ∷ xs) r m h =
        let t = rising_parts lo U x xs r in
        let ih = upper_ones (x + 1) (i + 1) xs t.2 m (omega arith) in
        let g : x / 2 ^ w + i < m = omega (arith, shr_mono {a = x} {b = U} w (omega (arith, t.1))) in
        (upper_first_lt U lo x xs i r m g ih.0, ones_past U lo x xs i r m g ∙ ap suc ih.1)

    -- ---- the whole upper run

    module _ (xs : List ℕ) (r : rising 0 U xs ≡ true) where
      pub upper_set : (j : ℕ) → j < length xs → bit (upper w 0 xs) (get_or xs j 0 / 2 ^ w + j) ≡ 1
      upper_set j h = rw (zero-add j) at (upper_at_lem 0 0 xs r j h).0

      pub upper_rank : (j : ℕ) → j < length xs → ones_to (upper w 0 xs) (get_or xs j 0 / 2 ^ w + j) ≡ j
      upper_rank j h = rw (zero-add j) at (upper_at_lem 0 0 xs r j h).1

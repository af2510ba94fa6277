-- Laws of the bitmap as a number: where its ones are, how many lie below a place, and how long it is.
use mathlib.Core.Bool.{true, cond}
use mathlib.Core.Path.{◌≡◌, refl, sym, ap, ◌∙◌}
use mathlib.Core.List.{List, [], ◌∷◌, ◌++◌}
use Prim.Native.Nat.{ℕ, zero, suc, ◌+◌, ◌-◌, ◌*◌, ◌/◌, ◌^◌, ◌≤◌, ◌<◌}
use native.Mathlib.Nat.{add_assoc, one-mul, zero-add}
use native.Mathlib.Decide.{dec_lt, ℕ_discrete}
use native.Mathlib.Omega.{arith}
use borrow.Author.Tests.{lt-ltb, le-ltb, eq-eqb, ne_eqb}
use lib.Dec.{ltb, eqb}
use lib.Pow.{pow_pos, pow-lt, shl-shr, split}
use Rattle.rules.specs.Runs.{bit}
use Rattle.rules.specs.List.{rising, map_of, ones_up_to, pages_below}
use Rattle.rules.specs.Plain.{below, member}
use Rattle.laws.proofs.BitLaws.{bit_shr, bit_low, bit_high, bit_cleared, bit_beyond, bits_none, filled_lt}
use Rattle.laws.proofs.CountLaws.{ones_more}
use Rattle.listlaws.specs.Sound.{ones_to}
use Rattle.listlaws.proofs.AfterLaws.{ones_none}
use Rattle.listlaws.proofs.RisingLaws.{rising_parts}

-- ---- a one at x, below a number whose bits up to x are 0

module _ (x v : ℕ) (clear : (j : ℕ) → j ≤ x → bit v j ≡ 0) where
  abbrev rest : ℕ
  rest = v / 2 ^ suc x

  rest_is : v ≡ rest * 2 ^ suc x
  rest_is = omega (arith, split v (suc x), bits_none v (suc x) (λ j h. clear j (omega arith)))

  parted : 2 ^ x + v ≡ rest * 2 ^ suc x + 2 ^ x
  parted = omega (arith, rest_is)

  first_low : (p : ℕ) → p ≤ x → bit (2 ^ x + v) p ≡ bit (1 * 2 ^ x) p
  first_low p h = rw (parted, one-mul (2 ^ x)) (bit_low rest (2 ^ x) (suc x) p (omega arith))

  first_below : (p : ℕ) → p < x → bit (2 ^ x + v) p ≡ 0
  first_below p h = first_low p (omega arith) ∙ bit_cleared 1 x p h

  first_here : bit (2 ^ x + v) x ≡ 1
  unfolding bit
  first_here = first_low x (omega arith) ∙ rw (shl-shr 1 x)

  first_above : (p : ℕ) → x < p → bit (2 ^ x + v) p ≡ bit v p
  first_above p h =
      let e : suc x + (p - suc x) ≡ p = omega arith in
      rw (parted, ← e)
      (bit_high rest (2 ^ x) (suc x) (p - suc x) (pow-lt (omega arith)) ∙ bit_shr v (suc x) (p - suc x))

  first_lt : (m : ℕ) → x < m → v < 2 ^ m → 2 ^ x + v < 2 ^ m
  first_lt m h l = rw parted (filled_lt rest (2 ^ x) (suc x) m (omega arith) (pow-lt (omega arith)) (rw rest_is at l))

-- ---- the bits of a rising list

pub map_nil : map_of [] ≡ 0
unfolding map_of
map_nil = refl

pub map_cons : (x : ℕ) (xs : List ℕ) → map_of (x ∷ xs) ≡ 2 ^ x + map_of xs
unfolding map_of
map_cons x xs = refl

pub map_append : (xs ys : List ℕ) → map_of (xs ++ ys) ≡ map_of xs + map_of ys
unfolding map_of
map_append [] ys = sym (zero-add (map_of ys))
map_append (x ∷ xs) ys = ap (λ (v : ℕ). 2 ^ x + v) (map_append xs ys) ∙ sym (add_assoc (2 ^ x) (map_of xs) (map_of ys))

pub map_none : (p : ℕ) → bit (map_of []) p ≡ 0
map_none p = rw map_nil (bit_beyond 0 p (pow_pos p))

-- no one below the least
pub map_clear : (lo U : ℕ) (xs : List ℕ) → rising lo U xs ≡ true → (p : ℕ) → p < lo → bit (map_of xs) p ≡ 0
map_clear lo U [] r p h = map_none p
map_clear lo U (x ∷ xs) r p h =
    let t = rising_parts lo U x xs r in
    rw map_cons
    (first_below x (map_of xs) (λ j l. map_clear (x + 1) U xs t.2 j (omega arith)) p (omega (arith, t.0)))

module _ (lo U x : ℕ) (xs : List ℕ) (r : rising lo U (x ∷ xs) ≡ true) where
  rest_clear : (p : ℕ) → p ≤ x → bit (map_of xs) p ≡ 0
  rest_clear p h = map_clear (x + 1) U xs (rising_parts lo U x xs r).2 p (omega arith)

  pub map_below : (p : ℕ) → p < x → bit (map_of (x ∷ xs)) p ≡ 0
  map_below p h = rw map_cons (first_below x (map_of xs) rest_clear p h)

  pub map_here : bit (map_of (x ∷ xs)) x ≡ 1
  map_here = rw map_cons (first_here x (map_of xs) rest_clear)

  pub map_above : (p : ℕ) → x < p → bit (map_of (x ∷ xs)) p ≡ bit (map_of xs) p
  map_above p h = rw map_cons (first_above x (map_of xs) rest_clear p h)

  -- the first element's one, and the others' ones
  pub map_bit : (p : ℕ) → bit (map_of (x ∷ xs)) p ≡ cond (eqb p x) 1 0 + bit (map_of xs) p
  map_bit p =
      elim (ℕ_discrete p x) [
        | yes e ↦ rw (e, eq-eqb x x refl, map_here, rest_clear x (omega arith))
        | no n ↦ rw (ne_eqb p x n) (elim (dec_lt p x) [
          | yes h ↦ omega (arith, map_below p h, rest_clear p (omega arith))
          | no h ↦ omega (arith, map_above p (omega (arith, n)))
        ])
      ]

-- the bits from U on are 0
pub map_lt : (lo U : ℕ) (xs : List ℕ) → rising lo U xs ≡ true → map_of xs < 2 ^ U
map_lt lo U [] r = rw map_nil (pow_pos U)
map_lt lo U (x ∷ xs) r =
    let t = rising_parts lo U x xs r in
    rw map_cons (first_lt x (map_of xs) (rest_clear lo U x xs r) U t.1 (map_lt (x + 1) U xs t.2))

-- ---- counts

pub up_to_ones : (u p : ℕ) → ones_up_to u p ≡ ones_to u p
unfolding ones_up_to
up_to_ones u zero = sym (ones_none u)
up_to_ones u (suc p) = omega (arith, up_to_ones u p, ones_more u p)

up_to_zero : (p : ℕ) → ones_up_to (map_of []) p ≡ 0
unfolding ones_up_to
up_to_zero zero = refl
up_to_zero (suc p) = omega (arith, up_to_zero p, map_none p)

up_to_first : (lo U x : ℕ) (xs : List ℕ) → rising lo U (x ∷ xs) ≡ true → (p : ℕ)
    → ones_up_to (map_of (x ∷ xs)) p ≡ cond (ltb x p) 1 0 + ones_up_to (map_of xs) p
unfolding ones_up_to
up_to_first lo U x xs r zero = rw (le-ltb x 0 (omega arith))
up_to_first lo U x xs r (suc p) =
    let ih = up_to_first lo U x xs r p in
    elim (dec_lt x p) [
      | yes h ↦ rw (lt-ltb x (suc p) (omega arith)) (omega (arith, rw (lt-ltb x p h) at ih, map_above lo U x xs r p h))
      | no h ↦ elim (ℕ_discrete p x) [
        | yes e ↦
            let o : bit (map_of (x ∷ xs)) p ≡ 1 = rw e (map_here lo U x xs r) in
            let z = rest_clear lo U x xs r p (omega arith) in
            rw (lt-ltb x (suc p) (omega arith)) (omega (arith, rw (le-ltb x p (omega arith)) at ih, o, z))
        | no n ↦ rw (le-ltb x (suc p) (omega (arith, n))) (omega (
          arith,
          rw (le-ltb x p (omega arith)) at ih,
          map_below lo U x xs r p (omega (arith, n)),
          rest_clear lo U x xs r p (omega arith),
        ))
      ]
    ]

-- the ones below a place are the elements below it
pub up_to_below : (lo U : ℕ) (xs : List ℕ) → rising lo U xs ≡ true → (p : ℕ) → ones_up_to (map_of xs) p ≡ below p xs
unfolding below
up_to_below lo U [] r p = up_to_zero p
up_to_below lo U (x ∷ xs) r p =
    up_to_first lo U x xs r p
    ∙ ap (λ (k : ℕ). cond (ltb x p) 1 0 + k) (up_to_below (x + 1) U xs (rising_parts lo U x xs r).2 p)

pub pages_below_lem : (U : ℕ) (xs : List ℕ) → rising 0 U xs ≡ true → (i : ℕ) → pages_below (map_of xs) i ≡ below (256 * i) xs
unfolding pages_below
pages_below_lem U xs r i = up_to_below 0 U xs r (256 * i)

-- a one stands for each element, and for nothing else
pub map_member : (lo U : ℕ) (xs : List ℕ) → rising lo U xs ≡ true → (p : ℕ)
    → bit (map_of xs) p ≡ cond (member p xs) 1 0
unfolding member
map_member lo U [] r p = map_none p
map_member lo U (x ∷ xs) r p =
    let t = rising_parts lo U x xs r in
    elim (ℕ_discrete p x) [
      | yes e ↦ rw (e, eq-eqb x x refl) (map_here lo U x xs r)
      | no n ↦ rw (map_bit lo U x xs r p, ne_eqb p x n) (zero-add (bit (map_of xs) p) ∙ map_member (x + 1) U xs t.2 p)
    ]

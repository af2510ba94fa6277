-- Laws of rising lists: their elements, two of them in a row, and the bound tested once at the end.
use mathlib.Core.Bool.{Bool, true, false, ◌&&◌, false≢true}
use mathlib.Core.Path.{◌≡◌, refl, sym}
use mathlib.Core.List.{List, [], ◌∷◌, ◌++◌}
use Prim.Native.Nat.{ℕ, zero, suc, ◌+◌, ◌≤◌, ◌<◌}
use native.Mathlib.Nat.{zero-add, suc-add}
use native.Mathlib.Decide.{dec_lt}
use native.Mathlib.Omega.{arith}
use borrow.Author.Tests.{le-leb, lt-leb, lt-ltb, le-ltb, leb-true, ltb-true}
use lib.Dec.{leb, ltb}
use lib.ListN.{length, get_or}
use Rattle.rules.specs.List.{rising}
use Rattle.listlaws.specs.Sound.{climbs, least}

pub and_parts : (a b : Bool) → a && b ≡ true → (a ≡ true) × (b ≡ true)
and_parts true b e = (refl, e)
and_parts false b e = absurd (false≢true e)

pub and_assoc : (a b c : Bool) → a && (b && c) ≡ (a && b) && c
and_assoc true b c = refl
and_assoc false b c = refl

pub rising_parts : (lo U x : ℕ) (xs : List ℕ) → rising lo U (x ∷ xs) ≡ true
    → (lo ≤ x) × (x < U) × (rising (x + 1) U xs ≡ true)
unfolding rising
rising_parts lo U x xs r =
    let a = and_parts (leb lo x) (ltb x U && rising (x + 1) U xs) r in
    let b = and_parts (ltb x U) (rising (x + 1) U xs) a.1 in
    (leb-true lo x a.0, ltb-true x U b.0, b.1)

pub rising_length : (lo U : ℕ) (xs : List ℕ) → rising lo U xs ≡ true → lo ≤ U → lo + length xs ≤ U
rising_length lo U [] r l = omega arith
rising_length lo U (x ∷ xs) r l =
    let t = rising_parts lo U x xs r in
    omega (arith, t.0, rising_length (x + 1) U xs t.2 (omega (arith, t.1)))

-- the elements lie in their bounds, and rise by 1 at least
pub rising_at : (lo U : ℕ) (xs : List ℕ) → rising lo U xs ≡ true → (j : ℕ) → j < length xs
    → (lo + j ≤ get_or xs j 0) × (get_or xs j 0 < U)
rising_at lo U [] r j h = absurd (omega arith)
rising_at lo U (x ∷ xs) r zero h =
    let t = rising_parts lo U x xs r in
    (omega (arith, t.0), t.1)
rising_at lo U (x ∷ xs) r (suc j) h =
    let t = rising_parts lo U x xs r in
    let ih = rising_at (x + 1) U xs t.2 j (omega arith) in
    (omega (arith, t.0, ih.0), ih.1)

pub rising_gap : (lo U : ℕ) (xs : List ℕ) → rising lo U xs ≡ true → (i d : ℕ) → i + d < length xs
    → get_or xs i 0 + d ≤ get_or xs (i + d) 0
rising_gap lo U [] r i d h = absurd (omega arith)
rising_gap lo U (x ∷ xs) r zero zero h = omega arith
rising_gap lo U (x ∷ xs) r zero (suc d) h =
    rw zero-add (omega (arith, (rising_at (x + 1) U xs (rising_parts lo U x xs r).2 d (omega arith)).0))
rising_gap lo U (x ∷ xs) r (suc i) d h =
    rw suc-add (rising_gap (x + 1) U xs (rising_parts lo U x xs r).2 i d (omega arith))

-- two lists, the second from the least that may follow the first
pub rising_append : (lo U : ℕ) (xs ys : List ℕ) → rising lo U (xs ++ ys) ≡ rising lo U xs && rising (least lo xs) U ys
unfolding rising least
rising_append lo U [] ys = refl
rising_append lo U (x ∷ xs) ys =
    let a : Bool = rising (x + 1) U xs in
    let b : Bool = rising (least (x + 1) xs) U ys in
    rw (rising_append (x + 1) U xs ys, and_assoc (ltb x U) a b) (and_assoc (leb lo x) (ltb x U && a) b)

pub climbs_append : (lo : ℕ) (xs ys : List ℕ) → climbs lo (xs ++ ys) ≡ climbs lo xs && climbs (least lo xs) ys
unfolding climbs least
climbs_append lo [] ys = refl
climbs_append lo (x ∷ xs) ys =
    rw (climbs_append (x + 1) xs ys) (and_assoc (leb lo x) (climbs (x + 1) xs) (climbs (least (x + 1) xs) ys))

pub least_append : (lo : ℕ) (xs ys : List ℕ) → least lo (xs ++ ys) ≡ least (least lo xs) ys
unfolding least
least_append lo [] ys = refl
least_append lo (x ∷ xs) ys = least_append (x + 1) xs ys

pub climbs_least : (lo : ℕ) (xs : List ℕ) → climbs lo xs ≡ true → lo ≤ least lo xs
unfolding climbs least
climbs_least lo [] c = omega arith
climbs_least lo (x ∷ xs) c =
    let p = and_parts (leb lo x) (climbs (x + 1) xs) c in
    omega (arith, leb-true lo x p.0, climbs_least (x + 1) xs p.1)

none_below : (b : Bool) (x U : ℕ) → (b ≡ true → U < x) → b && leb x U ≡ false
none_below true x U h = lt-leb x U (h refl)
none_below false x U h = refl

-- the bound U is tested once, at the end
pub rising_climbs : (lo U : ℕ) (xs : List ℕ) → lo ≤ U → rising lo U xs ≡ climbs lo xs && leb (least lo xs) U
unfolding rising climbs least
rising_climbs lo U [] l = sym (le-leb lo U l)
rising_climbs lo U (x ∷ xs) l =
    elim (dec_lt x U) [
      | yes h ↦ rw (lt-ltb x U h, rising_climbs (x + 1) U xs (omega arith))
          (and_assoc (leb lo x) (climbs (x + 1) xs) (leb (least (x + 1) xs) U))
      | no h ↦
          rw (
            le-ltb x U (omega arith),
            ← and_assoc (leb lo x) (climbs (x + 1) xs) (leb (least (x + 1) xs) U),
            none_below (climbs (x + 1) xs) (least (x + 1) xs) U (λ c. omega (arith, climbs_least (x + 1) xs c)),
          )
    ]

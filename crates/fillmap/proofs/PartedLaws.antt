-- Laws of a list in two parts, the elements below a place and the others: the word of its bitmap that the first part
-- completes, and the number that counts it.
use mathlib.Core.Bool.{true}
use mathlib.Core.Path.{◌≡◌, refl, sym, ap, ◌∙◌}
use mathlib.Core.List.{List, [], ◌∷◌}
use Prim.Native.Nat.{ℕ, zero, suc, ◌+◌, ◌-◌, ◌*◌, ◌/◌, ◌%◌, ◌^◌, ◌≤◌, ◌<◌}
use native.Mathlib.Nat.{add_comm, add-mul, zero-mul, mod-eq_of_lt, div-eq_of_lt}
use native.Mathlib.Decide.{dec_lt}
use native.Mathlib.Omega.{arith}
use borrow.Author.Tests.{le-leb, lt-ltb, le-ltb}
use lib.Bits.{bit_or}
use lib.Dec.{leb}
use lib.ListN.{length, get_or, take, drop, length-drop, take-append-drop}
use lib.Pow.{pow-add, shr_lt}
use lib.Seq.{get_or-drop}
use Rattle.rules.specs.List.{rising, map_of, pages_below}
use Rattle.rules.specs.Plain.{below}
use Rattle.laws.proofs.BitLaws.{drop_low, drop_high, placed_one}
use Rattle.listlaws.specs.Sound.{climbs, least}
use Rattle.listlaws.proofs.RisingLaws.{and_parts, rising_parts, rising_gap, rising_climbs}
use Rattle.maplaws.proofs.NumberLaws.{map_nil, map_cons, map_append, map_lt, pages_below_lem}
use Rattle.filllaws.proofs.RiseLaws.{take_more}
use Rattle.fillmap.specs.Mapping.{word_of, Parted}

-- ---- a rising list

pub rising_climbing : (U : ℕ) (xs : List ℕ) → rising 0 U xs ≡ true → climbs 0 xs ≡ true
rising_climbing U xs r =
    (and_parts (climbs 0 xs) (leb (least 0 xs) U) (sym (rising_climbs 0 U xs (omega arith)) ∙ r)).0

climbs_rising : (xs : List ℕ) → climbs 0 xs ≡ true → rising 0 (least 0 xs) xs ≡ true
climbs_rising xs c =
    rising_climbs 0 (least 0 xs) xs (omega arith) ∙ rw (c, le-leb (least 0 xs) (least 0 xs) (omega arith))

climbs_before : (xs : List ℕ) → climbs 0 xs ≡ true → (i j : ℕ) → i < length xs → j < i → get_or xs j 0 < get_or xs i 0
climbs_before xs c i j h l =
    let e : j + (i - j) ≡ i = omega arith in
    let g = rising_gap 0 (least 0 xs) xs (climbs_rising xs c) j (i - j) (rw e h) in
    omega (arith, rw e at g)

-- the elements before number i rise below any bound that is above each of them
take_rises : (lo U p : ℕ) (xs : List ℕ) → rising lo U xs ≡ true → (i : ℕ) → ((j : ℕ) → j < i → get_or xs j 0 < p)
    → rising lo p (take i xs) ≡ true
unfolding rising
take_rises lo U p xs r zero h = refl
take_rises lo U p [] r (suc i) h = refl
take_rises lo U p (x ∷ xs) r (suc i) h =
    let t = rising_parts lo U x xs r in
    rw (le-leb lo x t.0, lt-ltb x p (h 0 (omega arith)))
    (take_rises (x + 1) U p xs t.2 i (λ j l. h (suc j) (omega arith)))

-- ---- parts

pub parted_none : (xs : List ℕ) → Parted xs 0 0
parted_none xs = record {
  within = omega arith;
  below = λ j l. absurd (omega arith);
  above = λ j l h. omega arith;
}

-- the element at number i is the least of the others
pub parted_of : (xs : List ℕ) → climbs 0 xs ≡ true → (p i : ℕ) → i ≤ length xs → ((j : ℕ) → j < i → get_or xs j 0 < p)
    → (i < length xs → p ≤ get_or xs i 0) → Parted xs p i
parted_of xs c p i within below least = record {
  within = within;
  below = below;
  above = λ j l h. elim (dec_lt i j) [
    | yes y ↦ omega (arith, least (omega arith), climbs_before xs c j i h y)
    | no y ↦
        let e : i ≡ j = omega arith in
        rw e at (least (omega arith))
  ];
}

-- ---- the bitmap's word

-- the bitmap of elements from m on has no one below m
high_map : (m : ℕ) (ys : List ℕ) → ((j : ℕ) → j < length ys → m ≤ get_or ys j 0) → (q : ℕ) × (map_of ys ≡ q * 2 ^ m)
high_map m [] h = (0, map_nil ∙ sym (zero-mul (2 ^ m)))
high_map m (y ∷ ys) h =
    let r = high_map m ys (λ j l. h (suc j) (omega arith)) in
    let l : m ≤ y = h 0 (omega arith) in
    let e : y ≡ y - m + m = omega arith in
    let p : 2 ^ y ≡ 2 ^ (y - m) * 2 ^ m = ap (λ (k : ℕ). 2 ^ k) e ∙ pow-add 2 (y - m) m in
    (2 ^ (y - m) + r.0, map_cons y ys ∙ rw (p, r.1) (sym (add-mul (2 ^ (y - m)) r.0 (2 ^ m))))

module _ (xs : List ℕ) (c : climbs 0 xs ≡ true) where
  -- the bitmap of the elements before number i
  front_lt : (i p : ℕ) → ((j : ℕ) → j < i → get_or xs j 0 < p) → map_of (take i xs) < 2 ^ p
  front_lt i p h = map_lt 0 p (take i xs) (take_rises 0 (least 0 xs) p xs (climbs_rising xs c) i h)

  -- no element is gathered yet
  pub gathered_none : (k i : ℕ) → Parted xs (64 * k) i → 0 ≡ map_of (take i xs) / 2 ^ (64 * k)
  gathered_none k i p = sym (div-eq_of_lt (front_lt i (64 * k) p.below))

  -- one more
  pub gathered_more : (k i : ℕ) → i < length xs → 64 * k ≤ get_or xs i 0 → get_or xs i 0 < 64 * k + 64
      → bit_or (map_of (take i xs) / 2 ^ (64 * k)) ((1 * 2 ^ (get_or xs i 0 % 64)) % 2 ^ 64)
      ≡ map_of (take (i + 1) xs) / 2 ^ (64 * k)
  gathered_more k i h l u =
      let x : ℕ = get_or xs i 0 in
      let v : ℕ = map_of (take i xs) in
      let b : ℕ = x % 64 in
      let e : x ≡ b + 64 * k = omega arith in
      let low : v / 2 ^ (64 * k) < 2 ^ b =
      shr_lt b (64 * k) (rw e at (front_lt i x (λ j y. climbs_before xs c i j h y))) in
      let m : map_of (take (i + 1) xs) ≡ 1 * 2 ^ (b + 64 * k) + v =
      ap map_of (take_more xs i h) ∙ map_append (take i xs) (x ∷ [])
      ∙ rw (map_cons x [], map_nil, ← e) (omega arith) in
      placed_one (v / 2 ^ (64 * k)) 1 b 1 (omega arith) low (omega arith) (omega arith)
      ∙ sym (rw m (drop_low 1 v b (64 * k)))

  -- all of them
  pub gathered_all : (k i : ℕ) → Parted xs (64 * (k + 1)) i → map_of (take i xs) / 2 ^ (64 * k) ≡ word_of xs k
  gathered_all k i p =
      let v : ℕ = map_of (take i xs) in
      let r = high_map (0 + 64 + 64 * k) (drop i xs) above in
      let m : map_of xs ≡ r.0 * 2 ^ (0 + 64 + 64 * k) + v =
      ap map_of (sym (take-append-drop i xs)) ∙ map_append (take i xs) (drop i xs)
      ∙ ap (λ (n : ℕ). v + n) r.1 ∙ add_comm v (r.0 * 2 ^ (0 + 64 + 64 * k)) in
      let s : 64 + 64 * k ≡ 64 * (k + 1) = omega arith in
      let low : v / 2 ^ (64 * k) < 2 ^ 64 = shr_lt 64 (64 * k) (rw s (front_lt i (64 * (k + 1)) p.below)) in
      sym (rw (m, drop_low r.0 v (0 + 64) (64 * k)) (drop_high r.0 (v / 2 ^ (64 * k)) 0 64 ∙ mod-eq_of_lt low))
    where
      past : (j : ℕ) → j < length (drop i xs) → i + j < length xs
      past j l = let h = rw length-drop at l in omega (arith, h)

      above : (j : ℕ) → j < length (drop i xs) → 0 + 64 + 64 * k ≤ get_or (drop i xs) j 0
      above j l = rw get_or-drop (omega (arith, p.above (i + j) (omega arith) (past j l)))

-- ---- the bitmap's number

below_parted : (p : ℕ) (xs : List ℕ) (i : ℕ) → Parted xs p i → below p xs ≡ i
unfolding below
below_parted p [] zero t = refl
below_parted p [] (suc i) t = absurd (omega (arith, t.within))
below_parted p (x ∷ xs) zero t =
    rw (le-ltb x p (t.above 0 (omega arith) (omega arith)))
    (omega (
      arith,
      below_parted p xs zero (record {
        within = omega arith;
        below = λ j l. absurd (omega arith);
        above = λ j l h. t.above (suc j) (omega arith) (omega arith);
      }),
    ))
below_parted p (x ∷ xs) (suc i) t =
    rw (lt-ltb x p (t.below 0 (omega arith)))
    (omega (
      arith,
      below_parted p xs i (record {
        within = omega (arith, t.within);
        below = λ j l. t.below (suc j) (omega arith);
        above = λ j l h. t.above (suc j) (omega arith) (omega arith);
      }),
    ))

pub number_is : (U : ℕ) (xs : List ℕ) → rising 0 U xs ≡ true → (q i : ℕ) → Parted xs (64 * (4 * q)) i
    → pages_below (map_of xs) q ≡ i
number_is U xs r q i p =
    let e : 256 * q ≡ 64 * (4 * q) = omega arith in
    pages_below_lem U xs r q ∙ rw e (below_parted (64 * (4 * q)) xs i p)

-- Laws of order in a rising list, of its first element at least b, read plainly or by a walk, and of how many are below
-- b.
use mathlib.Core.Bool.{Bool, true, false, cond, and-false}
use mathlib.Core.Path.{◌≡◌, refl, sym, ap, ◌∙◌}
use mathlib.Core.List.{List, [], ◌∷◌}
use Prim.Native.Nat.{ℕ, zero, suc, ◌+◌, ◌-◌, ◌≤◌, ◌<◌}
use native.Mathlib.Nat.{add-zero, zero-add}
use native.Mathlib.Decide.{dec_le}
use native.Mathlib.Omega.{arith}
use borrow.Author.Tests.{le-leb, lt-leb, lt-ltb, le-ltb, eq-eqb, ne_eqb}
use lib.Dec.{leb, eqb, eqb-zero-suc, eqb-suc-suc}
use lib.ListN.{length, get_or}
use Rattle.rules.specs.List.{rising, Form}
use Rattle.rules.specs.Seek.{none, page, rank_of, place_in, walk}
use Rattle.rules.specs.Plain.{first_from, below}
use Rattle.listlaws.proofs.RisingLaws.{rising_parts, rising_at, rising_gap}
use Rattle.seeklaws.specs.Cursors.{first_at, found_at}

-- ---- order

pub rising_lt : (lo U : ℕ) (xs : List ℕ) → rising lo U xs ≡ true → (i j : ℕ) → i < j → j < length xs
    → get_or xs i 0 < get_or xs j 0
rising_lt lo U xs r i j l h =
    let e : i + (j - i) ≡ j = omega arith in
    omega (arith, rw e at (rising_gap lo U xs r i (j - i) (rw e h)))

pub rising_below : (lo U : ℕ) (xs : List ℕ) → rising lo U xs ≡ true → (j : ℕ) → j < length xs → get_or xs j 0 < U
rising_below lo U xs r j h = (rising_at lo U xs r j h).1

-- ---- the first element at least b

pub first_at_here : (b x : ℕ) (xs : List ℕ) → b ≤ x → first_at b (x ∷ xs) ≡ 0
unfolding first_at
first_at_here b x xs h = rw (le-leb b x h, first_at)

pub first_at_past : (b x : ℕ) (xs : List ℕ) → x < b → first_at b (x ∷ xs) ≡ suc (first_at b xs)
unfolding first_at
first_at_past b x xs h = rw (lt-leb b x h, first_at)

-- what makes number i that of the first
pub first_at_unique : (b : ℕ) (xs : List ℕ) (i : ℕ) → i ≤ length xs → ((j : ℕ) → j < i → get_or xs j 0 < b)
    → (i < length xs → b ≤ get_or xs i 0) → first_at b xs ≡ i
unfolding first_at
first_at_unique b [] i l p q = omega arith
first_at_unique b (x ∷ xs) zero l p q = first_at_here b x xs (q (omega arith))
first_at_unique b (x ∷ xs) (suc i) l p q = first_at_past b x xs (p 0 (omega arith))
    ∙ ap suc (first_at_unique b xs i (omega arith) (λ j h. p (suc j) (omega arith)) (λ h. q (omega arith)))

pub first_at_le : (b : ℕ) (xs : List ℕ) → first_at b xs ≤ length xs
unfolding first_at
first_at_le b [] = omega arith
first_at_le b (x ∷ xs) =
    elim (dec_le b x) [
      | yes h ↦ rw (first_at_here b x xs h) (omega arith)
      | no h ↦ rw (first_at_past b x xs (omega arith)) (omega (arith, first_at_le b xs))
    ]

pub first_at_before : (b : ℕ) (xs : List ℕ) (j : ℕ) → j < first_at b xs → get_or xs j 0 < b
unfolding first_at
first_at_before b [] j h = absurd (omega arith)
first_at_before b (x ∷ xs) zero h = elim (dec_le b x) [
  | yes l ↦ absurd (omega (arith, first_at_here b x xs l))
  | no l ↦ omega arith
]
first_at_before b (x ∷ xs) (suc j) h =
    elim (dec_le b x) [
      | yes l ↦ absurd (omega (arith, first_at_here b x xs l))
      | no l ↦ first_at_before b xs j (omega (arith, first_at_past b x xs (omega arith)))
    ]

pub first_at_at : (b : ℕ) (xs : List ℕ) → first_at b xs < length xs → b ≤ get_or xs (first_at b xs) 0
first_at_at b [] h = absurd (omega arith)
first_at_at b (x ∷ xs) h =
    elim (dec_le b x) [
      | yes l ↦ rw (first_at_here b x xs l) l
      | no l ↦
          let e = first_at_past b x xs (omega arith) in
          rw e (first_at_at b xs (omega (arith, e)))
    ]

pub first_at_none : (b : ℕ) (xs : List ℕ) → ((j : ℕ) → j < length xs → get_or xs j 0 < b) → first_at b xs ≡ length xs
first_at_none b xs p = first_at_unique b xs (length xs) (omega arith) p (λ h. absurd (omega arith))

-- an element is the first at least itself
pub first_at_self : (lo U : ℕ) (xs : List ℕ) → rising lo U xs ≡ true → (i : ℕ) → i < length xs
    → first_at (get_or xs i 0) xs ≡ i
first_at_self lo U xs r i h =
    first_at_unique (get_or xs i 0) xs i (omega arith) (λ j l. rising_lt lo U xs r j i l h) (λ l. omega arith)

-- ---- by a walk

-- a walk that starts behind no element at least b ends at the first of them
pub walk_first : (f : Form) (w start b i : ℕ) (xs : List ℕ)
    → ((j : ℕ) → j < length xs → b ≤ get_or xs j 0 → start ≤ place_in f w (get_or xs j 0) (i + j))
    → walk f w start b i xs ≡ i + first_at b xs
unfolding walk first_at
walk_first f w start b i [] a = sym (add-zero i)
walk_first f w start b i (x ∷ xs) a =
    elim (dec_le b x) [
      | yes h ↦
          let l : start ≤ place_in f w x i = rw (add-zero i) at (a 0 (omega arith) h) in
          rw (first_at_here b x xs h, le-leb start (place_in f w x i) l, le-leb b x h, walk) (sym (add-zero i))
      | no h ↦
          let ih = walk_first f w start b (i + 1) xs (λ j l g. rw (add_suc i j) at (a (suc j) (omega arith) g)) in
          rw (
            first_at_past b x xs (omega arith),
            lt-leb b x (omega arith),
            and-false (leb start (place_in f w x i)),
            walk,
          ) (ih ∙ omega arith)
    ]
  where
    add_suc : (i j : ℕ) → i + suc j ≡ i + 1 + j
    add_suc i j = omega arith

-- ---- by plain reading

first_from_is : (b i : ℕ) (xs : List ℕ)
    → first_from b i xs
    ≡ cond (eqb (first_at b xs) (length xs)) (none (i + first_at b xs))
    (page (get_or xs (first_at b xs) 0) (i + first_at b xs))
unfolding first_from first_at
first_from_is b i [] = ap none (sym (add-zero i))
first_from_is b i (x ∷ xs) =
    elim (dec_le b x) [
      | yes h ↦ rw (le-leb b x h, first_from, first_at, eqb-zero-suc, add-zero)
      | no h ↦
          let e : i + 1 + first_at b xs ≡ i + suc (first_at b xs) = omega arith in
          rw (lt-leb b x (omega arith), first_from, first_at, eqb-suc-suc, ← e) (first_from_is b (i + 1) xs)
    ]

pub first_found : (b : ℕ) (xs : List ℕ) → first_from b 0 xs ≡ found_at xs (first_at b xs)
unfolding found_at
first_found b xs = first_from_is b 0 xs ∙ rw zero-add

pub found_at_none : (xs : List ℕ) (i : ℕ) → i ≡ length xs → found_at xs i ≡ none (length xs)
unfolding found_at
found_at_none xs i e = rw (eq-eqb i (length xs) e, e)

pub found_at_page : (xs : List ℕ) (i : ℕ) → i < length xs → found_at xs i ≡ page (get_or xs i 0) i
unfolding found_at
found_at_page xs i h = rw (ne_eqb i (length xs) (λ e. omega arith))

-- ---- how many elements are below b

pub found_at_rank : (xs : List ℕ) (i : ℕ) → rank_of (found_at xs i) ≡ i
unfolding found_at rank_of
found_at_rank xs i = go (eqb i (length xs))
  where
    go : (e : Bool) → rank_of (cond e (none i) (page (get_or xs i 0) i)) ≡ i
    go true = refl
    go false = refl

below_none : (b lo U : ℕ) (xs : List ℕ) → rising lo U xs ≡ true → b ≤ lo → below b xs ≡ 0
unfolding below
below_none b lo U [] r h = refl
below_none b lo U (x ∷ xs) r h =
    let t = rising_parts lo U x xs r in
    rw (le-ltb x b (omega (arith, t.0)), below_none b (x + 1) U xs t.2 (omega (arith, t.0)))

-- those before the first that is not
pub below_first : (b lo U : ℕ) (xs : List ℕ) → rising lo U xs ≡ true → below b xs ≡ first_at b xs
unfolding below first_at
below_first b lo U [] r = refl
below_first b lo U (x ∷ xs) r =
    let t = rising_parts lo U x xs r in
    elim (dec_le b x) [
      | yes h ↦
          rw (first_at_here b x xs h, le-ltb x b h) (omega (arith, below_none b (x + 1) U xs t.2 (omega arith)))
      | no h ↦
          let l : x < b = omega arith in
          rw (first_at_past b x xs l, lt-ltb x b l) (omega (arith, below_first b (x + 1) U xs t.2))
    ]

-- the number that plain reading's answer carries
pub first_rank : (b lo U : ℕ) (xs : List ℕ) → rising lo U xs ≡ true → rank_of (first_from b 0 xs) ≡ below b xs
first_rank b lo U xs r =
    ap rank_of (first_found b xs) ∙ found_at_rank xs (first_at b xs) ∙ sym (below_first b lo U xs r)

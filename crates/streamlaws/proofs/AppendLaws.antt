-- Laws of what a word is made of, for two lists one behind the other:
-- rising lists, counts, their sums, positions and their elements.
use mathlib.Core.Bool.{true, ◌&&◌}
use mathlib.Core.Path.{◌≡◌, refl, sym, ap, ◌∙◌}
use mathlib.Core.List.{List, [], ◌∷◌, ◌++◌, append_assoc}
use Prim.Native.Nat.{ℕ, ◌+◌, ◌≤◌}
use native.Mathlib.Nat.{add-zero, add_assoc}
use native.Mathlib.Omega.{arith}
use lib.Dec.{ltb}
use lib.ListN.{length, take, drop, drop_of_length-le}
use lib.Seq.{take-append-le, drop-append-le}
use Rattle.rules.specs.List.{rising}
use Rattle.rules.specs.Term.{total, sums, next, raised, placed, positive, in_order, in_order_by_page}
use Rattle.listlaws.proofs.RisingLaws.{and_parts, and_assoc}
use Rattle.termlaws.proofs.OrderLaws.{order_append, next_append, next_le, rising_order, order_rising}
use Rattle.termlaws.proofs.PlaceLaws.{page_length}

-- ---- rising lists, from lo and below U

pub record Split (lo U : ℕ) (xs ys : List ℕ) : Type 0 where
  pub first : in_order lo xs ≡ true
  pub second : in_order (next lo xs) ys ≡ true
  pub below : next (next lo xs) ys ≤ U

pub rising_split : (lo U : ℕ) (xs ys : List ℕ) → lo ≤ U → rising lo U (xs ++ ys) ≡ true → Split lo U xs ys
rising_split lo U xs ys l r =
    let p = rising_order lo U (xs ++ ys) l r in
    let q = and_parts (in_order lo xs) (in_order (next lo xs) ys) (sym (order_append lo xs ys) ∙ p.0) in
    record { first = q.0; second = q.1; below = rw (← next_append lo xs ys) p.1 }

pub split_rising : (lo U : ℕ) (xs ys : List ℕ) → Split lo U xs ys → rising lo U (xs ++ ys) ≡ true
split_rising lo U xs ys s =
    order_rising lo U (xs ++ ys) (rw (order_append lo xs ys, s.first) s.second) (rw next_append s.below)

pub rising_join : (lo U : ℕ) (xs ys : List ℕ) → lo ≤ U → rising lo U xs ≡ true → rising (next lo xs) U ys ≡ true
    → rising lo U (xs ++ ys) ≡ true
rising_join lo U xs ys l r q =
    let a = rising_order lo U xs l r in
    let b = rising_order (next lo xs) U ys a.1 q in
    split_rising lo U xs ys (record { first = a.0; second = b.0; below = b.1 })

module _ (lo U : ℕ) (xs ys : List ℕ) (s : Split lo U xs ys) where
  pub split_first : rising lo U xs ≡ true
  split_first = order_rising lo U xs s.first (omega (arith, next_le (next lo xs) ys s.second, s.below))

  pub split_second : rising (next lo xs) U ys ≡ true
  split_second = order_rising (next lo xs) U ys s.second s.below

-- ---- counts

pub total_append : (cs ds : List ℕ) → total (cs ++ ds) ≡ total cs + total ds
unfolding total
total_append [] ds = omega arith
total_append (c ∷ cs) ds = omega (arith, total_append cs ds)

pub positive_append : (cs ds : List ℕ) → positive (cs ++ ds) ≡ positive cs && positive ds
unfolding positive
positive_append [] ds = refl
positive_append (c ∷ cs) ds = rw (positive_append cs ds) (and_assoc (ltb 0 c) (positive cs) (positive ds))

pub sums_append : (s : ℕ) (cs ds : List ℕ) → sums s (cs ++ ds) ≡ sums s cs ++ sums (s + total cs) ds
unfolding sums total
sums_append s [] ds = rw add-zero
sums_append s (c ∷ cs) ds = rw (sums_append (s + c) cs ds, add_assoc s c (total cs))

-- ---- positions

nil_of : (l : List ℕ) → 0 ≡ length l → l ≡ []
nil_of l e = drop_of_length-le l {i = 0} (omega arith)

-- the first page's positions are all in the first list
page_append : (c : ℕ) (cs ps qs : List ℕ) → total (c ∷ cs) ≡ length ps
    → (take c (ps ++ qs) ≡ take c ps) × (drop c (ps ++ qs) ≡ drop c ps ++ qs)
unfolding total
page_append c cs ps qs e = (take-append-le c ps qs (omega arith), drop-append-le c ps qs (omega arith))

pub order_pages_append : (cs ds ps qs : List ℕ) → total cs ≡ length ps
    → in_order_by_page (cs ++ ds) (ps ++ qs) ≡ in_order_by_page cs ps && in_order_by_page ds qs
unfolding in_order_by_page total
order_pages_append [] ds ps qs e = ap (λ (l : List ℕ). in_order_by_page ds (l ++ qs)) (nil_of ps e)
order_pages_append (c ∷ cs) ds ps qs e =
    let p = page_append c cs ps qs e in
    rw (p.0, p.1, order_pages_append cs ds (drop c ps) qs (page_length c cs ps e).1)
    (and_assoc (in_order 0 (take c ps)) (in_order_by_page cs (drop c ps)) (in_order_by_page ds qs))

pub placed_append : (b : ℕ) (cs ds ps qs : List ℕ) → total cs ≡ length ps
    → placed b (cs ++ ds) (ps ++ qs) ≡ placed b cs ps ++ placed (next b (placed b cs ps)) ds qs
unfolding placed total next
placed_append b [] ds ps qs e = ap (λ (l : List ℕ). placed b ds (l ++ qs)) (nil_of ps e)
placed_append b (c ∷ cs) ds ps qs e =
    let p = page_append c cs ps qs e in
    let r : List ℕ = raised b (take c ps) in
    let k : List ℕ = placed (next b r) cs (drop c ps) in
    rw (p.0, p.1, placed_append (next b r) cs ds (drop c ps) qs (page_length c cs ps e).1, next_append b r k)
    (sym (append_assoc r k (placed (next (next b r) k) ds qs)))

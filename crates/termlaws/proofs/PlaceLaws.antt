-- Laws of positions and of their elements: the elements rise, and lowered they are the positions again, page by page.
use mathlib.Core.Bool.{true}
use mathlib.Core.Path.{◌≡◌, refl, sym, ◌∙◌}
use mathlib.Core.List.{List, [], ◌∷◌}
use Prim.Native.Nat.{ℕ, ◌+◌, ◌-◌, ◌≤◌}
use native.Mathlib.Nat.{add_assoc, add-zero}
use native.Mathlib.Decide.{dec_le}
use native.Mathlib.Omega.{arith}
use borrow.Author.Tests.{le-leb, lt-leb}
use lib.Dec.{leb}
use lib.ListN.{length, take, drop, length-append, length-drop, take-append-drop, drop_of_length-le}
use lib.Seq.{take_at, drop_at, length-take-le}
use Rattle.rules.specs.List.{rising}
use Rattle.rules.specs.Term.{total, next, raised, placed, in_order, in_order_by_page}
use Rattle.rules.specs.ReadTerm.{less, lowered}
use Rattle.listlaws.proofs.RisingLaws.{and_parts}
use Rattle.termlaws.proofs.OrderLaws.{order_parts, order_append, order_rising}

-- ---- one page

module _ (b : ℕ) where
  pub length_raised : (ps : List ℕ) → length (raised b ps) ≡ length ps
  unfolding raised
  length_raised [] = refl
  length_raised (p ∷ ps) = rw (length_raised ps)

  pub length_less : (es : List ℕ) → length (less b es) ≡ length es
  unfolding less
  length_less [] = refl
  length_less (e ∷ es) = rw (length_less es)

  leb_add : (x y : ℕ) → leb (b + x) (b + y) ≡ leb x y
  leb_add x y =
      elim (dec_le x y) [
        | yes h ↦ le-leb (b + x) (b + y) (omega arith) ∙ sym (le-leb x y h)
        | no h ↦ lt-leb (b + x) (b + y) (omega arith) ∙ sym (lt-leb x y (omega arith))
      ]

  pub order_raised : (lo : ℕ) (ps : List ℕ) → in_order (b + lo) (raised b ps) ≡ in_order lo ps
  unfolding raised in_order
  order_raised lo [] = refl
  order_raised lo (p ∷ ps) = rw (leb_add lo p, add_assoc b p 1, order_raised (p + 1) ps)

  pub less_raised : (ps : List ℕ) → less b (raised b ps) ≡ ps
  unfolding less raised
  less_raised [] = refl
  less_raised (p ∷ ps) =
      let e : b + p - b ≡ p = omega arith in
      rw (e, less_raised ps)

  -- of elements from b at the least
  pub raised_less : (lo : ℕ) (es : List ℕ) → b ≤ lo → in_order lo es ≡ true → raised b (less b es) ≡ es
  unfolding less raised
  raised_less lo [] l o = refl
  raised_less lo (e ∷ es) l o =
      let p = order_parts lo e es o in
      let q : b + (e - b) ≡ e = omega (arith, p.0) in
      rw (q, raised_less (e + 1) es (omega (arith, p.0)) p.1)

  pub order_less : (es : List ℕ) → in_order b es ≡ true → in_order 0 (less b es) ≡ true
  order_less es o =
      let e = order_raised 0 (less b es) in
      sym (rw (add-zero b, raised_less b es (omega arith) o) at e) ∙ o

-- ---- all pages

-- the first page's positions, and what is left
pub page_length : (c : ℕ) (cs es : List ℕ) → total (c ∷ cs) ≡ length es
    → (length (take c es) ≡ c) × (total cs ≡ length (drop c es))
unfolding total
page_length c cs es e = (length-take-le c es (omega arith), rw (length-drop c es) (omega arith))

pub placed_order : (b : ℕ) (cs ps : List ℕ) → in_order_by_page cs ps ≡ true → in_order b (placed b cs ps) ≡ true
unfolding placed in_order_by_page in_order
placed_order b [] ps o = refl
placed_order b (c ∷ cs) ps o =
    let q : List ℕ = raised b (take c ps) in
    let p = and_parts (in_order 0 (take c ps)) (in_order_by_page cs (drop c ps)) o in
    let h : in_order b q ≡ true = rw (add-zero b) at (order_raised b 0 (take c ps)) ∙ p.0 in
    rw (order_append b q (placed (next b q) cs (drop c ps)), h) (placed_order (next b q) cs (drop c ps) p.1)

pub placed_rising : (cs ps : List ℕ) → in_order_by_page cs ps ≡ true
    → rising 0 (next 0 (placed 0 cs ps)) (placed 0 cs ps) ≡ true
placed_rising cs ps o = order_rising 0 (next 0 (placed 0 cs ps)) (placed 0 cs ps) (placed_order 0 cs ps o) (omega arith)

pub length_placed : (b : ℕ) (cs ps : List ℕ) → total cs ≡ length ps → length (placed b cs ps) ≡ length ps
unfolding placed total
length_placed b [] ps e = e
length_placed b (c ∷ cs) ps e =
    let q : List ℕ = raised b (take c ps) in
    let p = page_length c cs ps e in
    rw (
      length-append q (placed (next b q) cs (drop c ps)),
      length_placed (next b q) cs (drop c ps) p.1,
      ← p.1,
      length_raised b (take c ps),
      p.0,
    ) e

pub lowered_placed : (b : ℕ) (cs ps : List ℕ) → total cs ≡ length ps → lowered b cs (placed b cs ps) ≡ ps
unfolding placed lowered total
lowered_placed b [] ps e = sym (drop_of_length-le ps {i = 0} (omega arith))
lowered_placed b (c ∷ cs) ps e =
    let q : List ℕ = raised b (take c ps) in
    let r : List ℕ = placed (next b q) cs (drop c ps) in
    let p = page_length c cs ps e in
    let l : length q ≡ c = length_raised b (take c ps) ∙ p.0 in
    rw (
      take_at q r c l,
      drop_at q r c l,
      less_raised b (take c ps),
      lowered_placed (next b q) cs (drop c ps) p.1,
    ) (take-append-drop c ps)

pub length_lowered : (b : ℕ) (cs es : List ℕ) → total cs ≡ length es → length (lowered b cs es) ≡ length es
unfolding lowered total
length_lowered b [] es e = e
length_lowered b (c ∷ cs) es e =
    let q : List ℕ = less b (take c es) in
    let p = page_length c cs es e in
    let r : List ℕ = lowered (next b (take c es)) cs (drop c es) in
    rw (
      length-append q r,
      length_lowered (next b (take c es)) cs (drop c es) p.1,
      ← p.1,
      length_less b (take c es),
      p.0,
    ) e

-- the first page's elements are in order, and the others behind them
pub page_order : (b c : ℕ) (es : List ℕ) → in_order b es ≡ true
    → (in_order b (take c es) ≡ true) × (in_order (next b (take c es)) (drop c es) ≡ true)
page_order b c es o =
    and_parts (in_order b (take c es)) (in_order (next b (take c es)) (drop c es))
    (sym (order_append b (take c es) (drop c es)) ∙ rw (take-append-drop c es) o)

module _ (b c : ℕ) (cs es : List ℕ) (e : total (c ∷ cs) ≡ length es) where
  -- the first page of what is lowered, and the others
  pub lowered_take : take c (lowered b (c ∷ cs) es) ≡ less b (take c es)
  unfolding lowered
  lowered_take = take_at (less b (take c es)) (lowered (next b (take c es)) cs (drop c es)) c
      (length_less b (take c es) ∙ (page_length c cs es e).0)

  pub lowered_drop : drop c (lowered b (c ∷ cs) es) ≡ lowered (next b (take c es)) cs (drop c es)
  unfolding lowered
  lowered_drop = drop_at (less b (take c es)) (lowered (next b (take c es)) cs (drop c es)) c
      (length_less b (take c es) ∙ (page_length c cs es e).0)

pub placed_lowered : (b : ℕ) (cs es : List ℕ) → total cs ≡ length es → in_order b es ≡ true
    → placed b cs (lowered b cs es) ≡ es
unfolding placed total
placed_lowered b [] es e o = sym (drop_of_length-le es {i = 0} (omega arith))
placed_lowered b (c ∷ cs) es e o =
    let p = page_length c cs es e in
    let q = page_order b c es o in
    rw (
      lowered_take b c cs es e,
      lowered_drop b c cs es e,
      raised_less b b (take c es) (omega arith) q.0,
      placed_lowered (next b (take c es)) cs (drop c es) p.1 q.1,
    ) (take-append-drop c es)

pub lowered_order : (b : ℕ) (cs es : List ℕ) → total cs ≡ length es → in_order b es ≡ true
    → in_order_by_page cs (lowered b cs es) ≡ true
unfolding in_order_by_page
lowered_order b [] es e o = refl
lowered_order b (c ∷ cs) es e o =
    let p = page_length c cs es e in
    let q = page_order b c es o in
    rw (lowered_take b c cs es e, lowered_drop b c cs es e, order_less b (take c es) q.0)
    (lowered_order (next b (take c es)) cs (drop c es) p.1 q.1)

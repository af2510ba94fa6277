-- Laws of lists in order and of what may follow them: in an append, and against a bound.
use mathlib.Core.Bool.{Bool, true, ◌&&◌}
use mathlib.Core.Path.{◌≡◌, refl, sym, ap, ◌∙◌}
use mathlib.Core.List.{List, [], ◌∷◌, ◌++◌}
use Prim.Native.Nat.{ℕ, ◌+◌, ◌≤◌}
use native.Mathlib.Omega.{arith}
use borrow.Author.Tests.{le-leb, leb-true}
use lib.Dec.{leb}
use Rattle.rules.specs.List.{rising}
use Rattle.rules.specs.Term.{next, in_order}
use Rattle.listlaws.specs.Sound.{climbs, least}
use Rattle.listlaws.proofs.RisingLaws.{and_parts, climbs_append, least_append, climbs_least, rising_climbs}

order_climbs : (lo : ℕ) (xs : List ℕ) → in_order lo xs ≡ climbs lo xs
unfolding in_order climbs
order_climbs lo [] = refl
order_climbs lo (x ∷ xs) = ap (λ (b : Bool). leb lo x && b) (order_climbs (x + 1) xs)

next_least : (lo : ℕ) (xs : List ℕ) → next lo xs ≡ least lo xs
unfolding next least
next_least lo [] = refl
next_least lo (x ∷ xs) = next_least (x + 1) xs

pub order_parts : (lo x : ℕ) (xs : List ℕ) → in_order lo (x ∷ xs) ≡ true → (lo ≤ x) × (in_order (x + 1) xs ≡ true)
unfolding in_order
order_parts lo x xs e =
    let p = and_parts (leb lo x) (in_order (x + 1) xs) e in
    (leb-true lo x p.0, p.1)

pub order_cons : (lo x : ℕ) (xs : List ℕ) → lo ≤ x → in_order (x + 1) xs ≡ true → in_order lo (x ∷ xs) ≡ true
unfolding in_order
order_cons lo x xs l e = rw (le-leb lo x l) e

pub order_append : (lo : ℕ) (xs ys : List ℕ) → in_order lo (xs ++ ys) ≡ in_order lo xs && in_order (next lo xs) ys
order_append lo xs ys =
    rw (order_climbs, order_climbs lo xs, next_least, order_climbs (least lo xs) ys) (climbs_append lo xs ys)

pub next_append : (lo : ℕ) (xs ys : List ℕ) → next lo (xs ++ ys) ≡ next (next lo xs) ys
next_append lo xs ys = rw (next_least, next_least lo xs, next_least (least lo xs) ys) (least_append lo xs ys)

pub next_le : (lo : ℕ) (xs : List ℕ) → in_order lo xs ≡ true → lo ≤ next lo xs
next_le lo xs e = rw next_least (climbs_least lo xs (sym (order_climbs lo xs) ∙ e))

-- ---- against a bound

pub rising_order : (lo U : ℕ) (xs : List ℕ) → lo ≤ U → rising lo U xs ≡ true → (in_order lo xs ≡ true) × (next lo xs ≤ U)
rising_order lo U xs l e =
    let p = and_parts (climbs lo xs) (leb (least lo xs) U) (sym (rising_climbs lo U xs l) ∙ e) in
    (order_climbs lo xs ∙ p.0, rw next_least (leb-true (least lo xs) U p.1))

pub order_rising : (lo U : ℕ) (xs : List ℕ) → in_order lo xs ≡ true → next lo xs ≤ U → rising lo U xs ≡ true
order_rising lo U xs e l =
    let m = next_le lo xs e in
    let c : climbs lo xs ≡ true = sym (order_climbs lo xs) ∙ e in
    rising_climbs lo U xs (omega arith) ∙ rw c (le-leb (least lo xs) U (rw next_least at l))

-- Laws of members of rising lists, of those from a bound on, and of those that all lists share.
use mathlib.Core.Bool.{Bool, true, false, cond}
use mathlib.Core.Path.{◌≡◌, refl, sym, ap, ◌∙◌}
use mathlib.Core.List.{List, [], ◌∷◌, ◌++◌}
use Prim.Native.Nat.{ℕ, zero, suc, ◌+◌, ◌≤◌, ◌<◌}
use native.Mathlib.Decide.{dec_le, dec_lt, ℕ_discrete}
use native.Mathlib.Omega.{arith}
use borrow.Author.Tests.{le-leb, lt-leb, lt-ltb, eq-eqb, ne_eqb}
use lib.ListN.{length, get_or, drop}
use Rattle.rules.specs.List.{rising}
use Rattle.rules.specs.Seek.{none, page}
use Rattle.rules.specs.Plain.{first_from, at_least, member, in_all, shared_by}
use Rattle.listlaws.proofs.RisingLaws.{rising_parts, rising_at}
use Rattle.seeklaws.specs.Cursors.{first_at}
use Rattle.seeklaws.proofs.FirstLaws.{rising_lt, first_at_here, first_at_past, first_at_le, first_at_before}
use Rattle.seeklaws.proofs.FirstLaws.{first_at_at, first_found, found_at_none, found_at_page}

-- ---- members

pub member_here : (x : ℕ) (xs : List ℕ) → member x (x ∷ xs) ≡ true
unfolding member
member_here x xs = rw (eq-eqb x x refl)

pub member_past : (x y : ℕ) (xs : List ℕ) → (x ≡ y → ⊥) → member x (y ∷ xs) ≡ member x xs
unfolding member
member_past x y xs h = rw (ne_eqb x y h)

pub member_at : (xs : List ℕ) (j : ℕ) → j < length xs → member (get_or xs j 0) xs ≡ true
member_at [] j h = absurd (omega arith)
member_at (x ∷ xs) zero h = member_here x xs
member_at (x ∷ xs) (suc j) h =
    elim (ℕ_discrete (get_or xs j 0) x) [
      | yes e ↦ rw e (member_here x xs)
      | no e ↦ member_past (get_or xs j 0) x xs e ∙ member_at xs j (omega arith)
    ]

pub member_none : (x : ℕ) (xs : List ℕ) → ((j : ℕ) → j < length xs → get_or xs j 0 ≡ x → ⊥) → member x xs ≡ false
unfolding member
member_none x [] h = refl
member_none x (y ∷ xs) h =
    member_past x y xs (λ e. h 0 (omega arith) (sym e)) ∙ member_none x xs (λ j l. h (suc j) (omega arith))

-- ---- the first element at least b

pub first_page : (b : ℕ) (xs : List ℕ) (c i : ℕ) → first_from b 0 xs ≡ page c i
    → (first_at b xs ≡ i) × (i < length xs) × (get_or xs i 0 ≡ c)
first_page b xs c i e =
    elim (dec_lt (first_at b xs) (length xs)) [
      | yes h ↦
          let q : page (get_or xs (first_at b xs) 0) (first_at b xs) ≡ page c i =
          sym (first_found b xs ∙ found_at_page xs (first_at b xs) h) ∙ e in
          let f : first_at b xs ≡ i = cc q in
          let g : get_or xs (first_at b xs) 0 ≡ c = cc q in
          (f, rw f at h, rw f at g)
      | no h ↦
          let l : first_at b xs ≡ length xs = omega (arith, first_at_le b xs) in
          let q : none (length xs) ≡ page c i = sym (first_found b xs ∙ found_at_none xs (first_at b xs) l) ∙ e in
          let z : ◌≡◌ {A = ℕ} 0 1 = cc q in
          absurd (omega arith)
    ]

pub first_none : (b : ℕ) (xs : List ℕ) (m : ℕ) → first_from b 0 xs ≡ none m → first_at b xs ≡ length xs
first_none b xs m e =
    elim (dec_lt (first_at b xs) (length xs)) [
      | yes h ↦
          let q : page (get_or xs (first_at b xs) 0) (first_at b xs) ≡ none m =
          sym (first_found b xs ∙ found_at_page xs (first_at b xs) h) ∙ e in
          let z : ◌≡◌ {A = ℕ} 0 1 = cc q in
          absurd (omega arith)
      | no h ↦ omega (arith, first_at_le b xs)
    ]

-- no member lies between b and the first element at least b
pub member_gap : (U : ℕ) (xs : List ℕ) → rising 0 U xs ≡ true → (b x : ℕ) → b ≤ x
    → (first_at b xs < length xs → x < get_or xs (first_at b xs) 0) → member x xs ≡ false
member_gap U xs r b x l g =
    member_none x xs (λ j h e.
    elim (dec_lt j (first_at b xs)) [
      | yes m ↦ omega (arith, first_at_before b xs j m)
      | no m ↦ elim (ℕ_discrete (first_at b xs) j) [
        | yes d ↦ omega (arith, g (omega arith), ap (λ (i : ℕ). get_or xs i 0) d)
        | no d ↦ omega (arith, g (omega arith), rising_lt 0 U xs r (first_at b xs) j (omega (arith, m, d)) h)
      ]
    ])

-- ---- those from b on

from_here : (b x : ℕ) (xs : List ℕ) → b ≤ x → at_least b (x ∷ xs) ≡ x ∷ at_least b xs
unfolding at_least
from_here b x xs h = rw (le-leb b x h, at_least)

from_past : (b x : ℕ) (xs : List ℕ) → x < b → at_least b (x ∷ xs) ≡ at_least b xs
unfolding at_least
from_past b x xs h = rw (lt-leb b x h, at_least)

pub from_all : (lo U : ℕ) (xs : List ℕ) → rising lo U xs ≡ true → (b : ℕ) → b ≤ lo → at_least b xs ≡ xs
unfolding at_least
from_all lo U [] r b h = refl
from_all lo U (x ∷ xs) r b h =
    let t = rising_parts lo U x xs r in
    from_here b x xs (omega (arith, t.0))
    ∙ ap (λ (l : List ℕ). x ∷ l) (from_all (x + 1) U xs t.2 b (omega (arith, t.0)))

pub from_zero : (xs : List ℕ) → at_least 0 xs ≡ xs
unfolding at_least
from_zero [] = refl
from_zero (x ∷ xs) = from_here 0 x xs (omega arith) ∙ ap (λ (l : List ℕ). x ∷ l) (from_zero xs)

pub from_first : (lo U : ℕ) (xs : List ℕ) → rising lo U xs ≡ true → (b : ℕ) → first_at b xs < length xs
    → at_least b xs ≡ get_or xs (first_at b xs) 0 ∷ at_least (get_or xs (first_at b xs) 0 + 1) xs
from_first lo U [] r b h = absurd (omega arith)
from_first lo U (x ∷ xs) r b h =
    let t = rising_parts lo U x xs r in
    elim (dec_le b x) [
      | yes l ↦
          rw (first_at_here b x xs l, from_here b x xs l, from_past (x + 1) x xs (omega arith))
          (ap (λ (l : List ℕ). x ∷ l)
          (from_all (x + 1) U xs t.2 b (omega arith) ∙ sym (from_all (x + 1) U xs t.2 (x + 1) (omega arith))))
      | no l ↦
          let e = first_at_past b x xs (omega arith) in
          let g : first_at b xs < length xs = omega (arith, e) in
          let m = first_at_at b xs g in
          rw (e, from_past b x xs (omega arith), from_past (get_or xs (first_at b xs) 0 + 1) x xs (omega arith))
          (from_first (x + 1) U xs t.2 b g)
    ]

pub from_none : (b : ℕ) (xs : List ℕ) → first_at b xs ≡ length xs → at_least b xs ≡ []
unfolding at_least
from_none b [] e = refl
from_none b (x ∷ xs) e =
    elim (dec_le b x) [
      | yes l ↦ absurd (omega (arith, first_at_here b x xs l))
      | no l ↦ from_past b x xs (omega arith) ∙ from_none b xs (omega (arith, first_at_past b x xs (omega arith)))
    ]

pub from_le : (b : ℕ) (xs : List ℕ) → length (at_least b xs) ≤ length xs
unfolding at_least
from_le b [] = omega arith
from_le b (x ∷ xs) =
    elim (dec_le b x) [
      | yes l ↦ rw (from_here b x xs l) (omega (arith, from_le b xs))
      | no l ↦ rw (from_past b x xs (omega arith)) (omega (arith, from_le b xs))
    ]

-- those of a rising list rise from b on
pub from_rises : (lo U : ℕ) (xs : List ℕ) → rising lo U xs ≡ true → (b : ℕ) → rising b U (at_least b xs) ≡ true
unfolding at_least rising
from_rises lo U [] r b = refl
from_rises lo U (x ∷ xs) r b =
    let t = rising_parts lo U x xs r in
    elim (dec_le b x) [
      | yes l ↦
          rw (from_here b x xs l, from_all (x + 1) U xs t.2 b (omega arith), le-leb b x l, lt-ltb x U t.1) t.2
      | no l ↦ rw (from_past b x xs (omega arith)) (from_rises (x + 1) U xs t.2 b)
    ]

-- those from d on are among those from b on
pub from_from : (b d : ℕ) (xs : List ℕ) → b ≤ d → at_least d (at_least b xs) ≡ at_least d xs
unfolding at_least
from_from b d [] h = refl
from_from b d (x ∷ xs) h =
    let ih = from_from b d xs h in
    elim (dec_le b x) [
      | yes l ↦ elim (dec_le d x) [
        | yes m ↦
            rw (from_here b x xs l, from_here d x (at_least b xs) m, from_here d x xs m) (ap (λ (l : List ℕ). x ∷ l) ih)
        | no m ↦
            rw (from_here b x xs l, from_past d x (at_least b xs) (omega arith), from_past d x xs (omega arith)) ih
      ]
      | no l ↦ rw (from_past b x xs (omega arith), from_past d x xs (omega arith)) ih
    ]

-- those behind the first n of a rising list are those above the last of them
pub from_behind : (lo U : ℕ) (xs : List ℕ) → rising lo U xs ≡ true → (n : ℕ) → n < length xs
    → at_least (get_or xs n 0 + 1) xs ≡ drop (suc n) xs
from_behind lo U [] r n h = absurd (omega arith)
from_behind lo U (x ∷ xs) r zero h =
    from_past (x + 1) x xs (omega arith) ∙ from_all (x + 1) U xs (rising_parts lo U x xs r).2 (x + 1) (omega arith)
from_behind lo U (x ∷ xs) r (suc n) h =
    let t = rising_parts lo U x xs r in
    from_past (get_or xs n 0 + 1) x xs (omega (arith, (rising_at (x + 1) U xs t.2 n (omega arith)).0))
    ∙ from_behind (x + 1) U xs t.2 n (omega arith)

pub from_mono : (b d : ℕ) (xs : List ℕ) → b ≤ d → length (at_least d xs) ≤ length (at_least b xs)
unfolding at_least
from_mono b d [] h = omega arith
from_mono b d (x ∷ xs) h =
    let ih = from_mono b d xs h in
    elim (dec_le b x) [
      | yes l ↦ elim (dec_le d x) [
        | yes m ↦ rw (from_here b x xs l, from_here d x xs m) (omega (arith, ih))
        | no m ↦ rw (from_here b x xs l, from_past d x xs (omega arith)) (omega (arith, ih))
      ]
      | no l ↦ rw (from_past b x xs (omega arith), from_past d x xs (omega arith)) ih
    ]

-- ---- those that all lists share

pub shared_yes : (ls : List (List ℕ)) (x : ℕ) (xs : List ℕ) → in_all x ls ≡ true
    → shared_by ls (x ∷ xs) ≡ x ∷ shared_by ls xs
unfolding shared_by
shared_yes ls x xs e = rw e

pub shared_no : (ls : List (List ℕ)) (x : ℕ) (xs : List ℕ) → in_all x ls ≡ false → shared_by ls (x ∷ xs) ≡ shared_by ls xs
unfolding shared_by
shared_no ls x xs e = rw e

-- between b and d there is none
pub shared_skip : (ls : List (List ℕ)) (xs : List ℕ) (b d : ℕ) → b ≤ d → ((x : ℕ) → b ≤ x → x < d → in_all x ls ≡ false)
    → shared_by ls (at_least b xs) ≡ shared_by ls (at_least d xs)
unfolding at_least
shared_skip ls [] b d h g = refl
shared_skip ls (x ∷ xs) b d h g =
    let ih = shared_skip ls xs b d h g in
    elim (dec_le b x) [
      | yes l ↦ elim (dec_le d x) [
        | yes m ↦ rw (from_here b x xs l, from_here d x xs m) (both x (at_least b xs) (at_least d xs) ih)
        | no m ↦ rw (from_here b x xs l, from_past d x xs (omega arith))
            (shared_no ls x (at_least b xs) (g x l (omega arith)) ∙ ih)
      ]
      | no l ↦ rw (from_past b x xs (omega arith), from_past d x xs (omega arith)) ih
    ]
  where
    both : (x : ℕ) (a c : List ℕ) → shared_by ls a ≡ shared_by ls c → shared_by ls (x ∷ a) ≡ shared_by ls (x ∷ c)
    both x a c e = unfold shared_by in ap (λ (l : List ℕ). cond (in_all x ls) (x ∷ []) [] ++ l) e

-- and from b on there is none
pub shared_none : (ls : List (List ℕ)) (xs : List ℕ) (b : ℕ) → ((x : ℕ) → b ≤ x → in_all x ls ≡ false)
    → shared_by ls (at_least b xs) ≡ []
unfolding at_least shared_by
shared_none ls [] b g = refl
shared_none ls (x ∷ xs) b g =
    elim (dec_le b x) [
      | yes l ↦ rw (from_here b x xs l) (shared_no ls x (at_least b xs) (g x l) ∙ shared_none ls xs b g)
      | no l ↦ rw (from_past b x xs (omega arith)) (shared_none ls xs b g)
    ]

-- no more of them are shared than there are
pub shared_le : (ls : List (List ℕ)) (xs : List ℕ) → length (shared_by ls xs) ≤ length xs
unfolding shared_by
shared_le ls [] = omega arith
shared_le ls (x ∷ xs) = go (shared_le ls xs) (in_all x ls) refl
  where
    go : length (shared_by ls xs) ≤ length xs → (b : Bool) → in_all x ls ≡ b
        → length (shared_by ls (x ∷ xs)) ≤ length (x ∷ xs)
    go ih true e = rw (shared_yes ls x xs e) (omega arith)
    go ih false e = rw (shared_no ls x xs e) (omega arith)

-- sharing from b on
pub shared_from_lem : (ls : List (List ℕ)) (b : ℕ) (xs : List ℕ) → shared_by ls (at_least b xs) ≡ at_least b (shared_by ls xs)
unfolding at_least shared_by
shared_from_lem ls b [] = refl
shared_from_lem ls b (x ∷ xs) = go (shared_from_lem ls b xs) (in_all x ls) refl (dec_le b x)
  where
    go : shared_by ls (at_least b xs) ≡ at_least b (shared_by ls xs) → (a : Bool) → in_all x ls ≡ a → Dec (b ≤ x)
        → shared_by ls (at_least b (x ∷ xs)) ≡ at_least b (shared_by ls (x ∷ xs))
    go ih true e (yes h) = rw (from_here b x xs h, shared_yes ls x xs e, from_here b x (shared_by ls xs) h)
        (shared_yes ls x (at_least b xs) e ∙ ap (λ (l : List ℕ). x ∷ l) ih)
    go ih true e (no h) = rw (
      from_past b x xs (omega arith),
      shared_yes ls x xs e,
      from_past b x (shared_by ls xs) (omega arith),
    ) ih
    go ih false e (yes h) = rw (from_here b x xs h, shared_no ls x xs e) (shared_no ls x (at_least b xs) e ∙ ih)
    go ih false e (no h) = rw (from_past b x xs (omega arith), shared_no ls x xs e) ih

-- one list alone shares all that it has
pub shared_alone : (xs : List ℕ) → shared_by [] xs ≡ xs
unfolding shared_by in_all
shared_alone [] = refl
shared_alone (x ∷ xs) = ap (λ (l : List ℕ). x ∷ l) (shared_alone xs)

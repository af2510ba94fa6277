-- What the tests of lists that a writer is handed tell, in document 01's words; and that a writer's refusal is the
-- first of its sentences that holds.
use mathlib.Core.Bool.{Bool, true, false, cond, not, ◌&&◌, true≢false}
use mathlib.Core.Logic.{◌↔◌, ◌⊎◌, inl, inr}
use mathlib.Core.Path.{◌≡◌, refl, sym, ap, ◌∙◌}
use mathlib.Core.List.{List, [], ◌∷◌}
use Prim.Native.Nat.{ℕ, zero, suc, ◌+◌, ◌≤◌, ◌<◌}
use native.Mathlib.Decide.{dec_lt}
use native.Mathlib.Omega.{arith}
use borrow.Author.Tests.{ltb-true, ltb-false, leb-false, not-true, not-false}
use lib.Dec.{ltb, leb, eqb}
use lib.ListN.{length, get_or, take, drop}
use lib.Seq.{drop-drop}
use Rattle.rules.specs.Verdict.{Verdict}
use Rattle.rules.specs.Verdict.{Room}
use Rattle.rules.specs.Refusal.{number}
use Rattle.rules.specs.Limits.{limit, last_edition, up_to}
use Rattle.rules.specs.List.{rising, valid_list, block}
use Rattle.rules.specs.Write.{Made, refused, stored, write_list}
use Rattle.rules.specs.Term.{Word, total, next, places, positive, in_order, in_order_by_page, valid_word, term_block}
use Rattle.rules.specs.Term.{write_term}
use Rattle.rules.specs.Questions.{all_below}
use Rattle.laws.proofs.HeadLaws.{up_to_parts, up_to_known}
use Rattle.listlaws.proofs.RisingLaws.{and_parts, and_assoc}
use Rattle.listlaws.proofs.ValidLaws.{valid_parts, valid_from}
use Rattle.termlaws.proofs.OrderLaws.{order_parts}
use Rattle.demands.specs.Faults.{Unknown, OutOfOrder, NotBelow, ZeroCount, on_page, PlacesDisorder}
use Rattle.demands.specs.Sentences.{Sentence, ◌when◌, First, list_writing, term_writing}
use Rattle.demands.proofs.FirstLaws.{Tests, tests_lt, tests_differ, first_end, first_test, first_and}

-- a test that finds no fault, and what it says where it finds one
pub tests_not : (b : Bool) (P : Type 0) → (b ≡ false → P) → (b ≡ true → P → ⊥) → Tests (not b) P
tests_not b P f g = (λ e. f (not-true b e), λ e. g (not-false b e))

-- ---- a version

pub tests_unknown : (last v : ℕ) → Tests (not (up_to last v)) (Unknown last v)
tests_unknown last v = tests_not (up_to last v) (Unknown last v) outside
    (λ e o.
    let p = up_to_parts last v e in
    elim o [ inl h ↦ omega (arith, h, p.0) | inr h ↦ omega (arith, h, p.1) ])
  where
    outside : up_to last v ≡ false → Unknown last v
    outside e = elim (dec_lt v 1) [
      | yes h ↦ inl h
      | no h ↦ elim (dec_lt last v) [
        | yes l ↦ inr l
        | no l ↦ absurd (true≢false (sym (up_to_known last v (omega arith) (omega arith)) ∙ e))
      ]
    ]

-- ---- a list in order, and below a bound

pub order_least : (lo : ℕ) (xs : List ℕ) → in_order lo xs ≡ true → 0 < length xs → lo ≤ get_or xs 0 0
order_least lo [] e h = absurd (omega arith)
order_least lo (x ∷ xs) e h = (order_parts lo x xs e).0

order_none : (lo : ℕ) (xs : List ℕ) → in_order lo xs ≡ true → (i : ℕ) → suc i < length xs
    → get_or xs (suc i) 0 ≤ get_or xs i 0 → ⊥
order_none lo [] e i h l = omega arith
order_none lo (x ∷ xs) e zero h l = omega (arith, order_least (x + 1) xs (order_parts lo x xs e).1 (omega arith))
order_none lo (x ∷ xs) e (suc i) h l = order_none (x + 1) xs (order_parts lo x xs e).1 i (omega arith) l

-- out of order, or it begins too low
pub order_some : (lo : ℕ) (xs : List ℕ) → in_order lo xs ≡ false
    → ((0 < length xs) × (get_or xs 0 0 < lo)) ⊎ OutOfOrder xs
unfolding in_order
order_some lo [] e = absurd (true≢false e)
order_some lo (x ∷ xs) e = go (order_some (x + 1) xs) (leb lo x) refl
  where
    go : (in_order (x + 1) xs ≡ false → ((0 < length xs) × (get_or xs 0 0 < x + 1)) ⊎ OutOfOrder xs)
        → (b : Bool) → leb lo x ≡ b → ((0 < length (x ∷ xs)) × (x < lo)) ⊎ OutOfOrder (x ∷ xs)
    go ih false f = inl (omega arith, leb-false lo x f)
    go ih true f = elim (ih (rw f at e)) [
      | inl a ↦ inr (0, omega arith, omega (arith, a.1))
      | inr a ↦ inr (suc a.0, omega (arith, a.1), a.2)
    ]

pub tests_order : (xs : List ℕ) → Tests (not (in_order 0 xs)) (OutOfOrder xs)
tests_order xs = tests_not (in_order 0 xs) (OutOfOrder xs)
    (λ e. elim (order_some 0 xs e) [ inl a ↦ absurd (omega (arith, a.1)) | inr a ↦ a ])
    (λ e o. order_none 0 xs e o.0 o.1 o.2)

pub below_none : (U : ℕ) (xs : List ℕ) → all_below U xs ≡ true → (i : ℕ) → i < length xs → U ≤ get_or xs i 0 → ⊥
unfolding all_below
below_none U [] e i h l = omega arith
below_none U (x ∷ xs) e zero h l = omega (arith, ltb-true x U (and_parts (ltb x U) (all_below U xs) e).0)
below_none U (x ∷ xs) e (suc i) h l = below_none U xs (and_parts (ltb x U) (all_below U xs) e).1 i (omega arith) l

pub below_some : (U : ℕ) (xs : List ℕ) → all_below U xs ≡ false → NotBelow U xs
unfolding all_below
below_some U [] e = absurd (true≢false e)
below_some U (x ∷ xs) e = go (below_some U xs) (ltb x U) refl
  where
    go : (all_below U xs ≡ false → NotBelow U xs) → (b : Bool) → ltb x U ≡ b → NotBelow U (x ∷ xs)
    go ih false f = (0, omega arith, ltb-false x U f)
    go ih true f =
        let a = ih (rw f at e) in
        (suc a.0, omega (arith, a.1), a.2)

pub tests_below : (U : ℕ) (xs : List ℕ) → Tests (not (all_below U xs)) (NotBelow U xs)
tests_below U xs = tests_not (all_below U xs) (NotBelow U xs) (below_some U xs)
    (λ e o. below_none U xs e o.0 o.1 o.2)

-- a rising list is in order and below its bound
pub rising_both : (lo U : ℕ) (xs : List ℕ) → rising lo U xs ≡ in_order lo xs && all_below U xs
unfolding rising in_order all_below
rising_both lo U [] = refl
rising_both lo U (x ∷ xs) = rw (rising_both (x + 1) U xs)
    (turn (leb lo x) (ltb x U) (in_order (x + 1) xs) (all_below U xs))
  where
    turn : (a b c d : Bool) → a && (b && (c && d)) ≡ (a && c) && (b && d)
    turn false b c d = refl
    turn true b true d = refl
    turn true true false d = refl
    turn true false false d = refl

pub passes : (b : Bool) (P : Type 0) → Tests (not b) P → (P → ⊥) → b ≡ true
passes true P t n = refl
passes false P t n = absurd (n (t.0 refl))

-- so a valid list is one that is in order and below a U within its limit
pub valid_is : (U : ℕ) (xs : List ℕ)
    → (valid_list U xs ≡ true) ↔ ((U ≤ limit) × (OutOfOrder xs → ⊥) × (NotBelow U xs → ⊥))
valid_is U xs = (
  λ v.
      let p = valid_parts U xs v in
      let q = and_parts (in_order 0 xs) (all_below U xs) (sym (rising_both 0 U xs) ∙ p.1) in
      (p.0, (tests_order xs).1 (ap not q.0), (tests_below U xs).1 (ap not q.1)),
  λ p.
      let o = passes (in_order 0 xs) (OutOfOrder xs) (tests_order xs) p.1 in
      let b = passes (all_below U xs) (NotBelow U xs) (tests_below U xs) p.2 in
      valid_from U xs p.0 (rising_both 0 U xs ∙ rw (o, b)),
)

-- ---- the counts and positions of a word

zero_some : (cs : List ℕ) → positive cs ≡ false → (i : ℕ) × (i < length cs) × (get_or cs i 0 ≡ 0)
unfolding positive
zero_some [] e = absurd (true≢false e)
zero_some (c ∷ cs) e = go (zero_some cs) (ltb 0 c) refl
  where
    go : (positive cs ≡ false → (i : ℕ) × (i < length cs) × (get_or cs i 0 ≡ 0)) → (b : Bool) → ltb 0 c ≡ b
        → (i : ℕ) × (i < length (c ∷ cs)) × (get_or (c ∷ cs) i 0 ≡ 0)
    go ih false f = (0, omega arith, omega (arith, ltb-false 0 c f))
    go ih true f =
        let a = ih (rw f at e) in
        (suc a.0, omega (arith, a.1), a.2)

zero_none : (cs : List ℕ) → positive cs ≡ true → (i : ℕ) → i < length cs → get_or cs i 0 ≡ 0 → ⊥
unfolding positive
zero_none [] e i h z = omega arith
zero_none (c ∷ cs) e zero h z = omega (arith, ltb-true 0 c (and_parts (ltb 0 c) (positive cs) e).0)
zero_none (c ∷ cs) e (suc i) h z = zero_none cs (and_parts (ltb 0 c) (positive cs) e).1 i (omega arith) z

pub tests_zero : (t : Word) → Tests (not (positive t.counts)) (ZeroCount t)
tests_zero t = tests_not (positive t.counts) (ZeroCount t) (zero_some t.counts)
    (λ e o. zero_none t.counts e o.0 o.1 o.2)

page_behind : (c : ℕ) (cs ps : List ℕ) (i : ℕ) → on_page (suc i) (c ∷ cs) ps ≡ on_page i cs (drop c ps)
unfolding total
page_behind c cs ps i = rw (drop-drop (total (take i cs)) c ps)

page_some : (cs ps : List ℕ) → in_order_by_page cs ps ≡ false → (i : ℕ) × (i < length cs) × OutOfOrder (on_page i cs ps)
unfolding in_order_by_page total
page_some [] ps e = absurd (true≢false e)
page_some (c ∷ cs) ps e = go (page_some cs (drop c ps)) (in_order 0 (take c ps)) refl
  where
    go : (in_order_by_page cs (drop c ps) ≡ false → (i : ℕ) × (i < length cs) × OutOfOrder (on_page i cs (drop c ps)))
        → (b : Bool) → in_order 0 (take c ps) ≡ b
        → (i : ℕ) × (i < length (c ∷ cs)) × OutOfOrder (on_page i (c ∷ cs) ps)
    go ih false f = (0, omega arith, (tests_order (take c ps)).0 (ap not f))
    go ih true f =
        let a = ih (rw f at e) in
        (suc a.0, omega (arith, a.1), rw (page_behind c cs ps a.0) a.2)

page_none : (cs ps : List ℕ) → in_order_by_page cs ps ≡ true → (i : ℕ) → i < length cs → OutOfOrder (on_page i cs ps) → ⊥
unfolding in_order_by_page total
page_none [] ps e i h o = omega arith
page_none (c ∷ cs) ps e zero h o =
    (tests_order (take c ps)).1 (ap not (and_parts (in_order 0 (take c ps)) (in_order_by_page cs (drop c ps)) e).0) o
page_none (c ∷ cs) ps e (suc i) h o =
    page_none cs (drop c ps) (and_parts (in_order 0 (take c ps)) (in_order_by_page cs (drop c ps)) e).1 i (omega arith)
    (rw (page_behind c cs ps i) at o)

pub tests_places : (t : Word) → Tests (not (in_order_by_page t.counts t.positions)) (PlacesDisorder t)
tests_places t = tests_not (in_order_by_page t.counts t.positions) (PlacesDisorder t)
    (page_some t.counts t.positions) (λ e o. page_none t.counts t.positions e o.0 o.1 o.2)

-- ---- the writers

-- the number that a writer's result gives
abbrev gives : Made → ℕ
gives m = number m.refusal

module _ (room : List ℕ) where
  -- a test of a writer, and what follows it
  made : (b : Bool) (R : Verdict) (m : Made) (P : Type 0) (ps : List Sentence) → Tests b P
      → (b ≡ false → First (gives m) ps) → First (gives (cond b (refused R room) m)) (R when P ∷ ps)
  made b R m P ps t g = first_test Made gives (refused R room) m R P ps refl b t g

  both : (a b : Bool) (R : Verdict) (m : Made) (P : Type 0) (ps : List Sentence) → Tests (not a) P
      → (a ≡ true → First (gives (cond (not b) (refused R room) m)) ps)
      → First (gives (cond (not (a && b)) (refused R room) m)) (R when P ∷ ps)
  both a b R m P ps t g = first_and Made gives (refused R room) m R P ps refl a b t g

  stored_first : (b : List ℕ) → First (gives (stored b room)) (Room when (length room < length b) ∷ [])
  unfolding stored
  stored_first b =
      made (ltb (length room) (length b)) _ _ _ _ (tests_lt (length room) (length b)) (λ e. first_end)

  pub list_writing_lem : (U : ℕ) (xs : List ℕ) → First (gives (write_list U xs room)) (list_writing U xs room)
  unfolding write_list
  list_writing_lem U xs =
      rw (rising_both 0 U xs)
      (made (ltb limit U) _ _ _ _ (tests_lt limit U)
      (λ a. both (in_order 0 xs) _ _ _ _ _ (tests_order xs)
      (λ b. made (not (all_below U xs)) _ _ _ _ (tests_below U xs)
      (λ c. stored_first (block U xs)))))

  pub term_writing_lem : (v N : ℕ) (t : Word) → First (gives (write_term v N t room)) (term_writing v N t room)
  unfolding write_term valid_word
  term_writing_lem v N t =
      let xs : List ℕ = t.pages in
      let cs : List ℕ = t.counts in
      let p : Bool = positive cs in
      let s : Bool = eqb (total cs) (length t.positions) in
      let o : Bool = in_order_by_page cs t.positions in
      rw (rising_both 0 N xs, ← and_assoc (in_order 0 xs) (all_below N xs) (p && (s && o)))
      (made (not (up_to last_edition v)) _ _ _ _ (tests_unknown last_edition v)
      (λ k. made (ltb limit N) _ _ _ _ (tests_lt limit N)
      (λ a. both (eqb (length xs) (length cs)) _ _ _ _ _ (tests_differ (length xs) (length cs))
      (λ b. both (in_order 0 xs) _ _ _ _ _ (tests_order xs)
      (λ c. both (all_below N xs) _ _ _ _ _ (tests_below N xs)
      (λ d. both p _ _ _ _ _ (tests_zero t)
      (λ e. both s _ _ _ _ _ (tests_differ (total cs) (length t.positions))
      (λ f. made (not o) _ _ _ _ (tests_places t)
      (λ g. made (ltb limit (next 0 (places t))) _ _ _ _ (tests_lt limit (next 0 (places t)))
      (λ h. stored_first (term_block v N t)))))))))))

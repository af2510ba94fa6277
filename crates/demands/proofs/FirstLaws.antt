-- Laws of the first sentence that holds: it is one number, it splits over an append, and tests in a row find it.
use mathlib.Core.Bool.{Bool, true, false, cond, not, ◌&&◌, ◌||◌, true≢false}
use mathlib.Core.Logic.{◌↔◌, ◌⊎◌, inl, inr}
use mathlib.Core.Path.{◌≡◌, refl, sym, ap, ◌∙◌}
use mathlib.Core.List.{List, [], ◌∷◌, ◌++◌}
use Prim.Native.Nat.{ℕ, ◌≤◌, ◌<◌}
use native.Mathlib.Omega.{arith}
use borrow.Author.Tests.{ltb-true, ltb-false, leb-true, leb-false, eqb-true, eqb-false, not-true, not-false}
use lib.Dec.{ltb, leb, eqb}
use Rattle.rules.specs.Verdict.{Verdict}
use Rattle.rules.specs.Verdict.{Accepted}
use Rattle.rules.specs.Refusal.{number, accepted, and_then}
use Rattle.laws.proofs.RefusalLaws.{number_inj, accepted_true, true_accepted, and_then_next, and_then_stop}
use Rattle.demands.specs.Sentences.{Sentence, ◌when◌, First}

-- ---- one number

-- two numbers that are the first's are one
pub first_unique : (ps : List Sentence) (j k : ℕ) → First j ps → First k ps → j ≡ k
unfolding First
first_unique [] j k a b = a ∙ sym b
first_unique (p ∷ ps) j k (inl a) (inl b) = a.1 ∙ sym b.1
first_unique (p ∷ ps) j k (inl a) (inr b) = absurd (b.0 a.0)
first_unique (p ∷ ps) j k (inr a) (inl b) = absurd (a.0 b.0)
first_unique (p ∷ ps) j k (inr a) (inr b) = first_unique ps j k a.1 b.1

-- where a call gives r, it gives k exactly when k is the number of the first sentence that holds
pub first_exactly : (ps : List Sentence) (r : ℕ) → First r ps → (k : ℕ) → (r ≡ k) ↔ First k ps
first_exactly ps r f k = (λ e. rw (← e) f, λ g. first_unique ps r k f g)

-- ---- none, and an append

-- each sentence refuses, with n at most
abbrev pub Refuses : ℕ → List Sentence → Type 0
Refuses n [] = Unit {0}
Refuses n (p ∷ ps) = (0 < number p.refusal) × (number p.refusal ≤ n) × Refuses n ps

-- none of them holds
abbrev pub None : List Sentence → Type 0
None [] = Unit {0}
None (p ∷ ps) = (p.holds → ⊥) × None ps

-- a sentence of number k holds, and none before it
abbrev pub Place : ℕ → List Sentence → Type 1
Place k ps =
    (before : List Sentence)
    × (p : Sentence)
    × (after : List Sentence)
    × (ps ≡ before ++ (p ∷ after))
    × None before
    × p.holds
    × (k ≡ number p.refusal)

-- 0 is given exactly when none holds
zero_none : (n : ℕ) (ps : List Sentence) → Refuses n ps → First 0 ps → None ps
unfolding First
zero_none n [] r f = tt
zero_none n (p ∷ ps) r (inl a) = absurd (omega (arith, r.0, a.1))
zero_none n (p ∷ ps) r (inr a) = (a.0, zero_none n ps r.2 a.1)

none_zero : (ps : List Sentence) → None ps → First 0 ps
unfolding First
none_zero [] n = refl
none_zero (p ∷ ps) n = inr (n.0, none_zero ps n.1)

pub first_none : (n : ℕ) (ps : List Sentence) → Refuses n ps → First 0 ps ↔ None ps
first_none n ps r = (zero_none n ps r, none_zero ps)

pub first_most : (n : ℕ) (ps : List Sentence) (k : ℕ) → Refuses n ps → First k ps → k ≤ n
unfolding First
first_most n [] k r f = omega arith
first_most n (p ∷ ps) k r (inl a) = omega (arith, r.1, a.1)
first_most n (p ∷ ps) k r (inr a) = first_most n ps k r.2 a.1

-- another number is given exactly when a sentence with it holds and none before that one does
place_of : (k : ℕ) (ps : List Sentence) → (k ≡ 0 → ⊥) → First k ps → Place k ps
unfolding First
place_of k [] n f = absurd (n f)
place_of k (p ∷ ps) n (inl a) = ([], p, ps, refl, tt, a.0, a.1)
place_of k (p ∷ ps) n (inr a) =
    let q = place_of k ps n a.1 in
    (p ∷ q.0, q.1, q.2, ap (λ (l : List Sentence). p ∷ l) q.3, (a.0, q.4), q.5, q.6)

at_place : (k : ℕ) (before : List Sentence) (p : Sentence) (after : List Sentence) → None before → p.holds
    → k ≡ number p.refusal → First k (before ++ (p ∷ after))
unfolding First
at_place k [] p after n h e = inl (h, e)
at_place k (q ∷ before) p after n h e = inr (n.0, at_place k before p after n.1 h e)

pub first_place : (k : ℕ) (ps : List Sentence) → (k ≡ 0 → ⊥) → First k ps ↔ Place k ps
first_place k ps n = (place_of k ps n, λ q. rw q.3 (at_place k q.0 q.1 q.2 q.4 q.5 q.6))

-- the first of two lists of sentences: that of the one, or of the other where none of the one holds
module _ (qs : List Sentence) (k : ℕ) where
  pub first_stay : (ps : List Sentence) → (k ≡ 0 → ⊥) → First k ps → First k (ps ++ qs)
  unfolding First
  first_stay [] z f = absurd (z f)
  first_stay (p ∷ ps) z (inl a) = inl a
  first_stay (p ∷ ps) z (inr a) = inr (a.0, first_stay ps z a.1)

  pub first_skip : (ps : List Sentence) → None ps → First k qs → First k (ps ++ qs)
  unfolding First
  first_skip [] none f = f
  first_skip (p ∷ ps) none f = inr (none.0, first_skip ps none.1 f)

  first_split : (n : ℕ) (ps : List Sentence) → Refuses n ps → First k (ps ++ qs)
      → (First k ps × (k ≡ 0 → ⊥)) ⊎ (None ps × First k qs)
  unfolding First
  first_split n [] r f = inr (tt, f)
  first_split n (p ∷ ps) r (inl a) = inl (inl a, λ z. omega (arith, r.0, a.1))
  first_split n (p ∷ ps) r (inr a) = elim (first_split n ps r.2 a.1) [
    | inl b ↦ inl (inr (a.0, b.0), b.1)
    | inr b ↦ inr ((a.0, b.0), b.1)
  ]

  pub first_append : (n : ℕ) (ps : List Sentence) → Refuses n ps
      → First k (ps ++ qs) ↔ ((First k ps × (k ≡ 0 → ⊥)) ⊎ (None ps × First k qs))
  first_append n ps r = (first_split n ps r, back)
    where
      back : (First k ps × (k ≡ 0 → ⊥)) ⊎ (None ps × First k qs) → First k (ps ++ qs)
      back (inl a) = first_stay ps a.1 a.0
      back (inr a) = first_skip ps a.0 a.1

pub refuses_append : (n : ℕ) (ps qs : List Sentence) → Refuses n ps → Refuses n qs → Refuses n (ps ++ qs)
refuses_append n [] qs r q = q
refuses_append n (p ∷ ps) qs r q = (r.0, r.1, refuses_append n ps qs r.2 q)

-- ---- tests in a row

-- all have passed
pub first_end : First 0 []
unfolding First
first_end = refl

-- the test b tells whether P holds
abbrev pub Tests : Bool → Type 0 → Type 0
Tests b P = (b ≡ true → P) × (b ≡ false → P → ⊥)

-- both hold
pub tests_both : (a b : Bool) (P Q : Type 0) → Tests a P → Tests b Q → Tests (a && b) (P × Q)
tests_both true b P Q t u = (λ e. (t.0 refl, u.0 e), λ e x. u.1 e x.1)
tests_both false b P Q t u = (λ e. absurd (true≢false (sym e)), λ e x. t.1 refl x.0)

pub tests_lt : (m n : ℕ) → Tests (ltb m n) (m < n)
tests_lt m n = (ltb-true m n, λ e h. omega (arith, ltb-false m n e))

pub tests_le : (m n : ℕ) → Tests (leb m n) (m ≤ n)
tests_le m n = (leb-true m n, λ e h. omega (arith, leb-false m n e))

pub tests_differ : (m n : ℕ) → Tests (not (eqb m n)) (m ≡ n → ⊥)
tests_differ m n = (λ e. eqb-false m n (not-true (eqb m n) e), λ e h. h (eqb-true m n (not-false (eqb m n) e)))

module _ (A : Type 0) (f : A → ℕ) (x y : A) (R : Verdict) (P : Type 0) (ps : List Sentence) (is : f x ≡ number R) where
  -- a test, and what follows it
  pub first_test : (b : Bool) → Tests b P → (b ≡ false → First (f y) ps) → First (f (cond b x y)) (R when P ∷ ps)
  unfolding First
  first_test true t g = inl (t.0 refl, is)
  first_test false t g = inr (t.1 refl, g refl)

  -- one of two tests with the same refusal, and the other
  pub first_or : (a b : Bool) → Tests a P → (a ≡ false → First (f (cond b x y)) ps)
      → First (f (cond (a || b) x y)) (R when P ∷ ps)
  unfolding First
  first_or true b t g = inl (t.0 refl, is)
  first_or false b t g = inr (t.1 refl, g refl)

  -- the same where not both hold
  pub first_and : (a b : Bool) → Tests (not a) P → (a ≡ true → First (f (cond (not b) x y)) ps)
      → First (f (cond (not (a && b)) x y)) (R when P ∷ ps)
  unfolding First
  first_and false b t g = inl (t.0 refl, is)
  first_and true b t g = inr (t.1 refl, g refl)

-- one refusal, and then another
pub first_then : (n : ℕ) (r q : Verdict) (ps qs : List Sentence) → Refuses n ps → First (number r) ps
    → (r ≡ Accepted → First (number q) qs) → First (number (and_then r q)) (ps ++ qs)
first_then n r q ps qs p f g = go (accepted r) refl
  where
    go : (b : Bool) → accepted r ≡ b → First (number (and_then r q)) (ps ++ qs)
    go true e =
        let a = accepted_true r e in
        rw (and_then_next r q a) (first_skip qs (number q) ps (zero_none n ps p (rw a at f)) (g a))
    go false e =
        rw (and_then_stop r q e) (first_stay qs (number r) ps
        (λ z. let c : true ≡ false = sym (true_accepted r (number_inj r Accepted z)) ∙ e in true≢false c) f)

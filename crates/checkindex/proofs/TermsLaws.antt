-- Laws of the terms of an index as they are checked: each answer of the loop, and of the index behind its header.
use mathlib.Core.Bool.{Bool, true, false, cond, not}
use mathlib.Core.Path.{◌≡◌, refl, sym, ap, ◌∙◌}
use mathlib.Core.List.{List}
use Prim.Native.Nat.{ℕ, suc, ◌≤◌, ◌<◌}
use borrow.Author.Tests.{lt-ltb, le-ltb}
use lib.Dec.{eqb}
use lib.ListN.{length, take, drop}
use Rattle.rules.specs.Verdict.{Verdict}
use Rattle.rules.specs.Verdict.{Accepted, Limit, Layout, Parts}
use Rattle.rules.specs.Refusal.{accepted, and_then}
use Rattle.rules.specs.Limits.{limit, term_limit, last_edition, term_header, index_header}
use Rattle.rules.specs.ReadList.{stated, list_u}
use Rattle.rules.specs.Parts.{inside}
use Rattle.rules.specs.ReadTerm.{pages_of, term_refusal}
use Rattle.rules.specs.Index.{index_v, index_n, index_t, terms_refusal, index_refusal}
use Rattle.laws.proofs.RefusalLaws.{and_then_assoc}
use Rattle.laws.proofs.HeadLaws.{head_then}
use Rattle.laws.proofs.PartLaws.{inside_then}
use Rattle.cardlaws.proofs.TermsLaws.{terms_bad, terms_other, terms_next}
use Rattle.parts.specs.Places.{head_refusal}
use Rattle.cardlaws.specs.Terms.{word_refusal, word_inside, body_refusal}

-- the block at the front, and then its N
word_then : (v N : ℕ) (s : List ℕ) → word_inside v N s ≡ and_then (inside term_header (term_refusal v) s)
    (cond (not (eqb (list_u (pages_of (take (stated s) s))) N)) Parts Accepted)
word_then v N s =
    let b : List ℕ = take (stated s) s in
    let f : Verdict = inside term_header (λ _. Accepted) s in
    let r : Verdict = cond (not (eqb (list_u (pages_of b)) N)) Parts Accepted in
    inside_then term_header (word_refusal v N) s
    ∙ sym (and_then_assoc f (term_refusal v b) r)
    ∙ ap (λ (q : Verdict). and_then q r) (sym (inside_then term_header (term_refusal v) s))

-- ---- one term more, and none

module _ (v M N : ℕ) (s : List ℕ) where
  abbrev first : Verdict
  first = inside term_header (term_refusal v) s

  abbrev b : List ℕ
  b = take (stated s) s

  abbrev rest : Verdict
  rest = terms_refusal v M N (drop (stated s) s)

  -- by the tests of the first term: its own refusal, and its N
  by_tests : (x y : Bool) → accepted first ≡ x → eqb (list_u (pages_of b)) N ≡ y
      → terms_refusal v (suc M) N s ≡ and_then (and_then first (cond (not (eqb (list_u (pages_of b)) N)) Parts Accepted)) rest
  unfolding and_then accepted
  by_tests false y p q = terms_bad v M N s p ∙ rw (p, p)
  by_tests true false p q = terms_other v M N s p q ∙ rw (p, q)
  by_tests true true p q = terms_next v M N s p q ∙ rw (p, q)

pub terms_more : (v T M N : ℕ) (s : List ℕ) → T ≡ suc M
    → terms_refusal v T N s ≡ and_then (word_inside v N s) (terms_refusal v M N (drop (stated s) s))
terms_more v T M N s e =
    rw e (by_tests v M N s (accepted (inside term_header (term_refusal v) s))
    (eqb (list_u (pages_of (take (stated s) s))) N) refl refl)
    ∙ ap (λ (q : Verdict). and_then q (terms_refusal v M N (drop (stated s) s))) (sym (word_then v N s))

-- bytes are left behind the last, or none
module _ (v T N : ℕ) (s : List ℕ) (none : T ≡ 0) where
  pub terms_over : 0 < length s → terms_refusal v T N s ≡ Layout
  unfolding terms_refusal
  terms_over h = rw (none, lt-ltb 0 (length s) h)

  pub terms_done : length s ≤ 0 → terms_refusal v T N s ≡ Accepted
  unfolding terms_refusal
  terms_done h = rw (none, le-ltb 0 (length s) h)

-- ---- the limits, and then the terms

module _ (v T N : ℕ) (s : List ℕ) where
  pub over_N : limit < N → body_refusal v T N s ≡ Limit
  over_N h = rw (lt-ltb limit N h)

  pub over_T : N ≤ limit → term_limit < T → body_refusal v T N s ≡ Limit
  over_T l h = rw (le-ltb limit N l, lt-ltb term_limit T h)

  pub within_limits : N ≤ limit → T ≤ term_limit → body_refusal v T N s ≡ terms_refusal v T N s
  within_limits l h = rw (le-ltb limit N l, le-ltb term_limit T h)

-- ---- the index

pub index_then : (s : List ℕ) → index_refusal s
    ≡ and_then (head_refusal index_header last_edition s) (body_refusal (index_v s) (index_t s) (index_n s) (drop index_header s))
unfolding index_refusal index_v
index_then s = head_then index_header last_edition s (body_refusal (index_v s) (index_t s) (index_n s) (drop index_header s))

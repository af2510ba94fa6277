-- A screen by the definitions: the first of its sentences that holds, the ways that it ends, and the pages of screens
-- that are taken one after the other.
use mathlib.Core.Bool.{Bool, true, false, cond, not, ◌&&◌, ◌||◌, false≢true}
use mathlib.Core.Path.{◌≡◌, refl, sym, ap, ◌∙◌}
use mathlib.Core.List.{List, ◌∷◌, ◌++◌}
use Prim.Native.Nat.{ℕ, suc, ◌+◌, ◌-◌, ◌≤◌, ◌<◌}
use native.Mathlib.Omega.{arith}
use borrow.Author.Tests.{ltb-false, leb-true, leb-false, le-ltb, le-leb}
use lib.Dec.{ltb, leb}
use lib.ListN.{length, get_or, take, drop, length-take, take-append-drop}
use lib.Seq.{get_or-take, take_all}
use Rattle.rules.specs.Verdict.{Verdict}
use Rattle.rules.specs.Verdict.{Accepted, Question, Room}
use Rattle.rules.specs.Refusal.{number, accepted, and_then}
use Rattle.rules.specs.Limits.{phrase_limit, screen_limit}
use Rattle.rules.specs.List.{rising}
use Rattle.rules.specs.Index.{index_v, index_n, index_t, index_refusal}
use Rattle.rules.specs.Plain.{at_least}
use Rattle.rules.specs.Questions.{lists_in, all_below, words_good}
use Rattle.rules.specs.Screen.{screen_good, screen_pages, screen_counts, Screening, unshown, filled, showing, screen}
use Rattle.laws.proofs.RefusalLaws.{accepted_true, true_accepted}
use Rattle.listlaws.proofs.RisingLaws.{rising_at}
use Rattle.commonlaws.proofs.SharedLaws.{from_rises, from_from, from_behind}
use Rattle.demands.specs.Sentences.{Sentence, ◌when◌, First, index_sentences}
use Rattle.demands.specs.Screens.{screening}
use Rattle.demands.proofs.FirstLaws.{Tests, tests_lt, first_end, first_then, first_and, first_or}
use Rattle.demands.proofs.SentenceLaws.{test, index_first, index_refuses}
use Rattle.demands.proofs.FaultLaws.{tests_not, tests_below}

-- ---- the refusal

tests_least : (m n : ℕ) → Tests (not (leb m n)) (n < m)
tests_least m n = tests_not (leb m n) (n < m) (λ e. leb-false m n e) (λ e h. omega (arith, leb-true m n e))

module _ (s : List ℕ) (b r : ℕ) (ts pages counts : List ℕ) where
  abbrev ps : List ℕ
  ps = screen_pages b r (lists_in s ts)

  abbrev cs : List ℕ
  cs = screen_counts (index_v s) (index_n s) b r (lists_in s ts)

  abbrev short : Bool
  short = ltb (length pages) (length ps) || ltb (length counts) (length cs)

  refusal_then : (screen s b r ts pages counts).refusal ≡ and_then (index_refusal s)
      (cond (not (screen_good (index_t s) r ts)) Question (cond short Room Accepted))
  unfolding screen showing unshown and_then
  refusal_then = go (accepted (index_refusal s)) (screen_good (index_t s) r ts) short _ refl
    where
      go : (a g w : Bool) (m : Screening) → m.refusal ≡ Accepted
          → (cond (not a) (unshown (index_refusal s) pages counts)
          (cond (not g) (unshown Question pages counts) (cond w (unshown Room pages counts) m))).refusal
          ≡ cond a (cond (not g) Question (cond w Room Accepted)) (index_refusal s)
      go false g w m e = unfold unshown in refl
      go true false w m e = unfold unshown in refl
      go true true false m e = e
      go true true true m e = unfold unshown in refl

  -- the card's sentences, then those of r, the words and the rooms
  pub screen_first : First (number (screen s b r ts pages counts).refusal) (screening s b r ts pages counts)
  unfolding screen_good words_good screen_counts
  screen_first =
      rw refusal_then (first_then 7 _ _ (index_sentences s) _ (index_refuses s) (index_first s)
      (λ a. both (leb 1 r) _ _ _ _ (tests_least 1 r)
      (λ e. both (leb r screen_limit) _ _ _ _ (tests_least r screen_limit)
      (λ f. both (leb 1 (length ts)) _ _ _ _ (tests_least 1 (length ts))
      (λ g. both (leb (length ts) phrase_limit) _ _ _ _ (tests_least (length ts) phrase_limit)
      (λ h. test (not (all_below (index_t s) ts)) _ _ _ _ (tests_below (index_t s) ts)
      (λ i. first_or Verdict number Room Accepted Room _ _ refl _ _ (tests_lt (length pages) (length ps))
      (λ j. test (ltb (length counts) 2) _ _ _ _ (tests_lt (length counts) 2) (λ k. first_end)))))))))
    where
      both : (x y : Bool) (q : Verdict) (P : Type 0) (rest : List Sentence) → Tests (not x) P
          → (x ≡ true → First (number (cond (not y) Question q)) rest)
          → First (number (cond (not (x && y)) Question q)) (Question when P ∷ rest)
      both x y q P rest t g = first_and Verdict number Question q Question P rest refl x y t g

  -- ---- the ways that it ends

  -- the card is accepted, r and the words are good, and both rooms are long enough
  abbrev pub Passes : Type 0
  Passes =
      (index_refusal s ≡ Accepted)
      × (screen_good (index_t s) r ts ≡ true)
      × (length ps ≤ length pages)
      × (2 ≤ length counts)

  abbrev whole : Screening
  whole = filled r ps cs pages counts

  pub passes_whole : Passes → screen s b r ts pages counts ≡ whole
  unfolding screen showing screen_counts
  passes_whole p =
      rw (
        true_accepted (index_refusal s) p.0,
        p.1,
        le-ltb (length pages) (length ps) p.2,
        le-ltb (length counts) 2 p.3,
      )

  -- it was refused, or all pages were shown
  pub by_end : (P : Screening → Type 0)
      → ((q : Verdict) → (q ≡ Accepted → ⊥) → P (unshown q pages counts)) → (Passes → P whole)
      → P (screen s b r ts pages counts)
  by_end P a c =
      go (accepted (index_refusal s)) refl (screen_good (index_t s) r ts) refl (ltb (length pages) (length ps)) refl
      (ltb (length counts) 2) refl
    where
      go : (x : Bool) → accepted (index_refusal s) ≡ x → (y : Bool) → screen_good (index_t s) r ts ≡ y
          → (z : Bool) → ltb (length pages) (length ps) ≡ z → (w : Bool) → ltb (length counts) 2 ≡ w
          → P (screen s b r ts pages counts)
      go false e y f z g w h = unfold screen in
          rw e (a (index_refusal s) (λ q. false≢true (sym e ∙ true_accepted (index_refusal s) q)))
      go true e false f z g w h = unfold screen in rw (e, f) (a Question (λ q. omega (arith, ap number q)))
      go true e true f true g w h = unfold screen showing in rw (e, f, g) (a Room (λ q. omega (arith, ap number q)))
      go true e true f false g true h = unfold screen showing screen_counts in
          rw (e, f, g, h) (a Room (λ q. omega (arith, ap number q)))
      go true e true f false g false h =
          let p : Passes = (
            accepted_true (index_refusal s) e,
            f,
            ltb-false (length pages) (length ps) g,
            ltb-false (length counts) 2 h,
          ) in
          rw (passes_whole p) (c p)

-- ---- the pages of a screen, and those behind it

module _ (U : ℕ) (C : List ℕ) (rise : rising 0 U C ≡ true) (b r : ℕ) (some : 0 < r) where
  abbrev rest : List ℕ
  rest = at_least b C

  abbrev here : List ℕ
  here = take r rest

  -- fewer than the screen has: they are all
  pub falls_all : length here < r → rest ≡ here
  falls_all h = sym (take_all r rest (omega (arith, h, length-take r rest)))

  -- as many: the others are those from the page behind the last on
  pub fills_some : length here ≡ r → rest ≡ here ++ at_least (get_or here (r - 1) 0 + 1) C
  fills_some e =
      let n : r - 1 < length rest = omega (arith, e, some, length-take r rest) in
      let z : suc (r - 1) ≡ r = omega (arith, some) in
      let rises = from_rises 0 U C rise b in
      let last = get_or-take r rest (r - 1) 0 (omega (arith, some)) in
      let d : ℕ = get_or rest (r - 1) 0 + 1 in
      let low : b ≤ d = omega (arith, (rising_at b U rest rises (r - 1) n).0) in
      let behind : at_least d C ≡ drop r rest =
      sym (from_from b d C low) ∙ rw z at (from_behind b U rest rises (r - 1) n) in
      rw (last, behind) (sym (take-append-drop r rest))

pub good_screen : (T r : ℕ) (ts : List ℕ) → 1 ≤ r → r ≤ screen_limit → 1 ≤ length ts → length ts ≤ phrase_limit
    → all_below T ts ≡ true → screen_good T r ts ≡ true
unfolding screen_good words_good
good_screen T r ts a b c d e =
    rw (le-leb 1 r a, le-leb r screen_limit b, le-leb 1 (length ts) c, le-leb (length ts) phrase_limit d) e

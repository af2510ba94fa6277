-- The refusals of bytes by document 01's definitions are the first of its sentences that hold: those of a list, of a
-- term, of an index and of its closing.
use mathlib.Core.Bool.{Bool, true, false, cond, not, ◌||◌, true≢false}
use mathlib.Core.Logic.{inl, inr}
use mathlib.Core.Path.{◌≡◌, refl, sym, ap, ◌∙◌}
use mathlib.Core.List.{List, [], ◌∷◌, ◌++◌}
use Prim.Native.Nat.{ℕ, zero, suc, ◌≤◌}
use native.Mathlib.Omega.{arith}
use borrow.Author.Tests.{ltb-false, le-ltb, eq-eqb, eqb-true, not-true, not-false}
use lib.Dec.{ltb, leb, eqb}
use lib.ListN.{length, get_or, take, drop, length-take, take-append-drop}
use Rattle.rules.specs.Verdict.{Verdict}
use Rattle.rules.specs.Verdict.{Accepted, Short, Length, Version, Limit, Layout, Runs, Parts}
use Rattle.rules.specs.Refusal.{number, accepted, and_then}
use Rattle.rules.specs.Limits.{limit, term_limit, version, map_version, last_edition, up_to, list_header, term_header}
use Rattle.rules.specs.Limits.{index_header, four_bytes}
use Rattle.rules.specs.Bytes.{same}
use Rattle.rules.specs.List.{rising, Form, two_runs, form_of, form_version, form_size, form_block}
use Rattle.rules.specs.ReadList.{stated, list_u, list_n, form_at, decode, is_block, refusal_in, list_refusal, part_refusal}
use Rattle.rules.specs.Term.{next}
use Rattle.rules.specs.Parts as parts
use Rattle.rules.specs.Parts.{after, part}
use Rattle.rules.specs.ReadTerm.{lists_of, pages_of, counts_of, positions_of, disagree, term_refusal}
use Rattle.rules.specs.Index.{index_v, index_n, index_t, terms_refusal, index_refusal, close_refusal}
use Rattle.laws.proofs.HeadLaws.{up_to_one}
use Rattle.laws.proofs.PartLaws.{stated_front, inside_parts}
use Rattle.listlaws.proofs.RisingLaws.{and_parts}
use Rattle.listlaws.proofs.BlockLaws.{same_eq, same_refl}
use Rattle.listlaws.proofs.RefusalLaws.{form_first, version_form, part_form}
use Rattle.listlaws.proofs.ValidLaws.{valid_parts, valid_from}
use Rattle.maplaws.proofs.Theorems.{form_tells, part_block}
use Rattle.cardlaws.proofs.TermsLaws.{terms_bad, terms_other, terms_next}
use Rattle.demands.specs.Faults.{OtherVersion, Unknown, OtherSize, BytesLeft, BlockOf, NoList, OtherEnd, PagesU}
use Rattle.demands.specs.Sentences.{Sentence, ◌when◌, First, alone, inside, list_own, part_own, list_sentences}
use Rattle.demands.specs.Sentences.{disagreements, term_own, term_sentences, terms_of, index_own}
use Rattle.demands.specs.Sentences.{index_sentences, closing}
use Rattle.demands.proofs.FirstLaws.{Refuses, refuses_append, Tests, tests_lt, tests_le, tests_differ}
use Rattle.demands.proofs.FirstLaws.{first_end, first_most, first_test, first_or, first_then}
use Rattle.demands.proofs.FaultLaws.{tests_unknown}
use Rattle.demands.proofs.FormLaws.{tests_form}

-- a test of bytes, and what follows it
pub test : (b : Bool) (R q : Verdict) (P : Type 0) (ps : List Sentence) → Tests b P → (b ≡ false → First (number q) ps)
    → First (number (cond b R q)) (R when P ∷ ps)
test b R q P ps t g = first_test Verdict number R q R P ps refl b t g

-- one of two tests with the same refusal
either : (a b : Bool) (R q : Verdict) (P : Type 0) (ps : List Sentence) → Tests a P
    → (a ≡ false → First (number (cond b R q)) ps) → First (number (cond (a || b) R q)) (R when P ∷ ps)
either a b R q P ps t g = first_or Verdict number R q R P ps refl a b t g

-- ---- by themselves, and inside a container

-- the refusal of bytes by themselves: 1, 2, and then what their own tests say
abbrev by_itself : ℕ → (List ℕ → Verdict) → List ℕ → Verdict
by_itself h own s = cond (ltb (length s) h) Short (cond (not (eqb (stated s) (length s))) Length (own s))

module _ (h : ℕ) (own : List ℕ → Verdict) (ps : List ℕ → List Sentence)
    (first : (s : List ℕ) → First (number (own s)) (ps s)) where
  alone_first : (s : List ℕ) → First (number (by_itself h own s)) (alone h ps s)
  alone_first s =
      test (ltb (length s) h) _ _ _ _ (tests_lt (length s) h)
      (λ a. test (not (eqb (stated s) (length s))) _ _ _ _ (tests_differ (stated s) (length s)) (λ b. first s))

  inside_first : 4 ≤ h → (s : List ℕ) → First (number (parts.inside h (by_itself h own) s)) (inside h ps s)
  unfolding parts.inside
  inside_first l s =
      test (ltb (length s) h) _ _ _ _ (tests_lt (length s) h)
      (λ a. either (ltb (stated s) h) (ltb (length s) (stated s)) _ _ _ _ (tests_lt (stated s) h)
      (λ b. test (ltb (length s) (stated s)) _ _ _ _ (tests_lt (length s) (stated s)) (λ c.
      let n : List ℕ = take (stated s) s in
      let k : length n ≡ stated s = length-take (stated s) s ∙ omega (arith, ltb-false (length s) (stated s) c) in
      let m : stated n ≡ stated s =
      sym (stated_front n (drop (stated s) s) (omega (arith, ltb-false (stated s) h b)))
      ∙ ap stated (take-append-drop (stated s) s) in
      rw (le-ltb (length n) h (omega (arith, ltb-false (stated s) h b)), eq-eqb (stated n) (length n) (m ∙ sym k))
      (first n))))

-- ---- a list

-- what its own tests say, behind 1 and 2, where the versions of a list are 1 to last
abbrev list_tests : ℕ → ℕ → List ℕ → Verdict
list_tests last v s =
    let f : Form = form_of v (list_u s) (list_n s) in
    cond (not (up_to last (get_or s 4 0))) Version
    (cond (ltb limit (list_u s)) Limit
    (cond (ltb (list_u s) (list_n s)) Layout
    (cond (not (eqb (get_or s 4 0) (form_version f))) Version
    (cond (not (eqb (length s) (form_size f (list_u s) (list_n s)))) Layout
    (cond (not (is_block f s (list_u s) (decode s))) Runs Accepted)))))

-- a version that is not 1
tests_other : (s : List ℕ) → Tests (not (up_to version (get_or s 4 0))) (OtherVersion s)
tests_other s =
    let t = tests_unknown version (get_or s 4 0) in (
      λ e q. elim (t.0 e) [ inl h ↦ omega (arith, h, q) | inr h ↦ omega (arith, h, q) ],
      λ e n. n (up_to_one (get_or s 4 0) (not-false (up_to version (get_or s 4 0)) e)),
    )

module _ (s : List ℕ) where
  abbrev U : ℕ
  U = list_u s

  -- plain reading finds the valid list, where there is one
  tests_list : U ≤ limit → Tests (not (is_block (form_at s) s U (decode s))) (NoList s)
  unfolding is_block
  tests_list l = (
    λ e xs b. true≢false (sym (is xs b) ∙ not-true (is_block (form_at s) s U (decode s)) e),
    λ e n.
        let p = and_parts (rising 0 U (decode s)) (same s (form_block (form_at s) U (decode s)))
        (not-false (is_block (form_at s) s U (decode s)) e) in
        n (decode s) (valid_from U (decode s) l p.0, same_eq s (form_block (form_at s) U (decode s)) p.1),
  )
    where
      is : (xs : List ℕ) → BlockOf s xs → is_block (form_at s) s U (decode s) ≡ true
      is xs b =
          let t = form_tells s (form_at s) U xs b.0 b.1 in
          let v = valid_parts U xs b.0 in
          rw (← t.2, v.1) (ap (same s) (sym b.1) ∙ same_refl s)

  -- the last two sentences, in the form that the version tells
  sized_own : (f : Form) → form_at s ≡ f → U ≤ limit
      → First (number (cond (not (eqb (length s) (form_size f U (list_n s)))) Layout
      (cond (not (is_block f s U (decode s))) Runs Accepted)))
      (Layout when OtherSize s ∷ Runs when NoList s ∷ [])
  sized_own f e l =
      rw (← e)
      (test (not (eqb (length s) (form_size (form_at s) U (list_n s)))) _ _ _ _
      (tests_differ (length s) (form_size (form_at s) U (list_n s)))
      (λ d. test (not (is_block (form_at s) s U (decode s))) _ _ _ _ (tests_list l) (λ g. first_end)))

-- of a list alone, which is in two runs
list_own_lem : (s : List ℕ) → First (number (list_tests version version s)) (list_own s)
list_own_lem s =
    test (not (up_to version (get_or s 4 0))) _ _ _ _ (tests_other s)
    (λ a. test (ltb limit (list_u s)) _ _ _ _ (tests_lt limit (list_u s))
    (λ b. test (ltb (list_u s) (list_n s)) _ _ _ _ (tests_lt (list_u s) (list_n s))
    (λ c.
    let e = up_to_one (get_or s 4 0) (not-false (up_to version (get_or s 4 0)) a) in
    rw (form_first (list_u s) (list_n s), eq-eqb (get_or s 4 0) version e)
    (sized_own s two_runs (version_form two_runs s e) (ltb-false limit (list_u s) b)))))

pub list_first : (s : List ℕ) → First (number (list_refusal s)) (list_sentences s)
unfolding list_refusal refusal_in
list_first s = alone_first list_header (list_tests version version) list_own list_own_lem s

module _ (v : ℕ) where
  part_own_lem : (s : List ℕ) → First (number (list_tests map_version v s)) (part_own v s)
  part_own_lem s =
      let f : Form = form_of v (list_u s) (list_n s) in
      test (not (up_to map_version (get_or s 4 0))) _ _ _ _ (tests_unknown map_version (get_or s 4 0))
      (λ a. test (ltb limit (list_u s)) _ _ _ _ (tests_lt limit (list_u s))
      (λ b. test (ltb (list_u s) (list_n s)) _ _ _ _ (tests_lt (list_u s) (list_n s))
      (λ c. test (not (eqb (get_or s 4 0) (form_version f))) _ _ _ _
      (tests_form v s (not-false (up_to map_version (get_or s 4 0)) a))
      (λ d.
      let e = eqb-true (get_or s 4 0) (form_version f) (not-false (eqb (get_or s 4 0) (form_version f)) d) in
      sized_own s f (version_form f s e) (ltb-false limit (list_u s) b)))))

  -- at the front of what remains of a term
  abbrev in_list : List ℕ → List Sentence
  in_list = inside list_header (part_own v)

  list_inside : (s : List ℕ) → First (number (parts.inside list_header (part_refusal v) s)) (in_list s)
  unfolding part_refusal refusal_in
  list_inside s = inside_first list_header (list_tests map_version v) (part_own v) part_own_lem (omega arith) s

  list_refuses : (s : List ℕ) → Refuses 7 (in_list s)
  list_refuses s = omega arith

-- ---- a term

abbrev term_tests : ℕ → List ℕ → Verdict
term_tests v s =
    cond (not (up_to version (get_or s 4 0))) Version
    (cond (not (up_to last_edition v)) Version
    (and_then (parts.inside list_header (part_refusal v) (lists_of s))
    (and_then (parts.inside list_header (part_refusal version) (after 1 (lists_of s)))
    (and_then (parts.inside list_header (part_refusal version) (after 2 (lists_of s)))
    (cond (ltb 0 (length (after 3 (lists_of s)))) Layout
    (cond (disagree s) Parts Accepted))))))

-- an accepted list is the block of one list alone, that which is read of it
tests_end : (v : ℕ) (s : List ℕ) → part_refusal v s ≡ Accepted
    → Tests (not (eqb (list_u s) (next 0 (decode s)))) (OtherEnd s)
tests_end v s a =
    let t = tests_differ (list_u s) (next 0 (decode s)) in
    let b = part_block v s a in
    let f : s ≡ form_block (form_at s) (list_u s) (decode s) = rw (part_form v s a) b.1 in (
      λ e. (decode s, (b.0, f), t.0 e),
      λ e o.
          let d = (form_tells s (form_at s) (list_u s) o.0 o.1.0 o.1.1).2 in
          t.1 e (λ q. o.2 (q ∙ ap (next 0) (sym d))),
    )

part_accepted : (v k : ℕ) (s : List ℕ) → parts.inside list_header (part_refusal v) (after k s) ≡ Accepted
    → part_refusal v (part k s) ≡ Accepted
unfolding part
part_accepted v k s a = (inside_parts list_header (part_refusal v) (after k s) a).passes

term_disagree : (s : List ℕ) → part_refusal version (counts_of s) ≡ Accepted
    → part_refusal version (positions_of s) ≡ Accepted
    → First (number (cond (disagree s) Parts Accepted)) (disagreements s)
unfolding disagree
term_disagree s c p =
    let n = not (eqb (list_n (counts_of s)) (list_n (pages_of s))) in
    let u = not (eqb (list_u (counts_of s)) (next 0 (decode (counts_of s)))) in
    let m = not (eqb (list_n (positions_of s)) (list_u (counts_of s))) in
    let v = not (eqb (list_u (positions_of s)) (next 0 (decode (positions_of s)))) in
    either n (u || (m || v)) _ _ _ _ (tests_differ (list_n (counts_of s)) (list_n (pages_of s)))
    (λ a. either u (m || v) _ _ _ _ (tests_end version (counts_of s) c)
    (λ b. either m v _ _ _ _ (tests_differ (list_n (positions_of s)) (list_u (counts_of s)))
    (λ d. test v _ _ _ _ (tests_end version (positions_of s) p) (λ e. first_end))))

module _ (v : ℕ) where
  term_own_lem : (s : List ℕ) → First (number (term_tests v s)) (term_own v s)
  unfolding counts_of positions_of
  term_own_lem s =
      let l : List ℕ = lists_of s in
      test (not (up_to version (get_or s 4 0))) _ _ _ _ (tests_other s)
      (λ z. test (not (up_to last_edition v)) _ _ _ _ (tests_unknown last_edition v)
      (λ a. first_then 7 _ _ (in_list v l) _ (list_refuses v l) (list_inside v l)
      (λ b. first_then 7 _ _ (in_list version (after 1 l)) _ (list_refuses version (after 1 l))
      (list_inside version (after 1 l))
      (λ c. first_then 7 _ _ (in_list version (after 2 l)) _ (list_refuses version (after 2 l))
      (list_inside version (after 2 l))
      (λ d. test (ltb 0 (length (after 3 l))) _ _ _ _ (tests_lt 0 (length (after 3 l)))
      (λ e. term_disagree s (part_accepted version 1 l c) (part_accepted version 2 l d)))))))

  pub term_first : (s : List ℕ) → First (number (term_refusal v s)) (term_sentences v s)
  unfolding term_refusal
  term_first s = alone_first term_header (term_tests v) (term_own v) term_own_lem s

  term_inside : (s : List ℕ)
      → First (number (parts.inside term_header (term_refusal v) s)) (inside term_header (term_own v) s)
  unfolding term_refusal
  term_inside s = inside_first term_header (term_tests v) (term_own v) term_own_lem (omega arith) s

  own_refuses : (s : List ℕ) → Refuses 7 (term_own v s)
  own_refuses s =
      let l : List ℕ = lists_of s in
      refuses_append 7
      (Version when OtherVersion s ∷ Version when Unknown last_edition v ∷ in_list v l ++ in_list version (after 1 l))
      (in_list version (after 2 l) ++ Layout when BytesLeft (after 3 l) ∷ disagreements s) (omega arith) (omega arith)

  term_refuses : (s : List ℕ) → Refuses 7 (inside term_header (term_own v) s)
  term_refuses s =
      let own = own_refuses (take (stated s) s) in
      (omega arith, omega arith, (omega arith, omega arith, (omega arith, omega arith, own)))

-- ---- terms one after the other

terms_then : (v T N : ℕ) (s : List ℕ) → terms_refusal v (suc T) N s
    ≡ and_then (parts.inside term_header (term_refusal v) s)
    (cond (not (eqb (list_u (pages_of (take (stated s) s))) N)) Parts (terms_refusal v T N (drop (stated s) s)))
unfolding and_then
terms_then v T N s =
    go (accepted (parts.inside term_header (term_refusal v) s)) (eqb (list_u (pages_of (take (stated s) s))) N) refl refl
  where
    go : (a b : Bool) → accepted (parts.inside term_header (term_refusal v) s) ≡ a
        → eqb (list_u (pages_of (take (stated s) s))) N ≡ b → terms_refusal v (suc T) N s
        ≡ cond (accepted (parts.inside term_header (term_refusal v) s))
        (cond (not (eqb (list_u (pages_of (take (stated s) s))) N)) Parts (terms_refusal v T N (drop (stated s) s)))
        (parts.inside term_header (term_refusal v) s)
    go false b e f = terms_bad v T N s e ∙ rw e
    go true false e f = terms_other v T N s e f ∙ rw (e, f)
    go true true e f = terms_next v T N s e f ∙ rw (e, f)

terms_first : (v T N : ℕ) (s : List ℕ) → First (number (terms_refusal v T N s)) (terms_of v T N s)
unfolding terms_refusal
terms_first v zero N s = test (ltb 0 (length s)) _ _ _ _ (tests_lt 0 (length s)) (λ e. first_end)
terms_first v (suc T) N s =
    let U : ℕ = list_u (pages_of (take (stated s) s)) in
    rw (terms_then v T N s) (first_then 7 _ _ (inside term_header (term_own v) s) _ (term_refuses v s)
    (term_inside v s)
    (λ a. test (not (eqb U N)) _ _ _ _ (tests_differ U N) (λ b. terms_first v T N (drop (stated s) s))))

terms_refuse : (v T N : ℕ) (s : List ℕ) → Refuses 7 (terms_of v T N s)
terms_refuse v zero N s = omega arith
terms_refuse v (suc T) N s =
    let rest : List ℕ = drop (stated s) s in
    refuses_append 7 (inside term_header (term_own v) s) (Parts when PagesU N (take (stated s) s) ∷ terms_of v T N rest)
    (term_refuses v s) (omega arith, omega arith, terms_refuse v T N rest)

-- ---- an index and its closing

abbrev index_tests : List ℕ → Verdict
index_tests s =
    cond (not (up_to last_edition (index_v s))) Version
    (cond (ltb limit (index_n s) || ltb term_limit (index_t s)) Limit
    (terms_refusal (index_v s) (index_t s) (index_n s) (drop index_header s)))

index_own_lem : (s : List ℕ) → First (number (index_tests s)) (index_own s)
index_own_lem s =
    test (not (up_to last_edition (index_v s))) _ _ _ _ (tests_unknown last_edition (index_v s))
    (λ a. either (ltb limit (index_n s)) (ltb term_limit (index_t s)) _ _ _ _ (tests_lt limit (index_n s))
    (λ b. test (ltb term_limit (index_t s)) _ _ _ _ (tests_lt term_limit (index_t s))
    (λ c. terms_first (index_v s) (index_t s) (index_n s) (drop index_header s))))

pub index_first : (s : List ℕ) → First (number (index_refusal s)) (index_sentences s)
unfolding index_refusal
index_first s = alone_first index_header index_tests index_own index_own_lem s

pub index_refuses : (s : List ℕ) → Refuses 7 (index_sentences s)
index_refuses s =
    let rest = terms_refuse (index_v s) (index_t s) (index_n s) (drop index_header s) in
    let own : Refuses 7 (index_own s) =
    (omega arith, omega arith, (omega arith, omega arith, (omega arith, omega arith, rest))) in
    (omega arith, omega arith, (omega arith, omega arith, own))

-- bytes are never refused with more than 7
pub index_most : (s : List ℕ) → number (index_refusal s) ≤ 7
index_most s = first_most 7 (index_sentences s) (number (index_refusal s)) (index_refuses s) (index_first s)

pub close_first : (buffer : List ℕ) (used v N T : ℕ)
    → First (number (close_refusal buffer used v N T)) (closing buffer used v N T)
unfolding close_refusal
close_first buffer used v N T =
    test (ltb (length buffer) used) _ _ _ _ (tests_lt (length buffer) used)
    (λ a. test (ltb used index_header) _ _ _ _ (tests_lt used index_header)
    (λ x. test (not (up_to last_edition v)) _ _ _ _ (tests_unknown last_edition v)
    (λ b. either (leb four_bytes used) (ltb limit N || ltb term_limit T) _ _ _ _ (tests_le four_bytes used)
    (λ c. either (ltb limit N) (ltb term_limit T) _ _ _ _ (tests_lt limit N)
    (λ d. test (ltb term_limit T) _ _ _ _ (tests_lt term_limit T)
    (λ e. terms_first v T N (drop index_header (take used buffer))))))))

-- Laws of a term's refusal: it is Accepted exactly when every test has passed.
use mathlib.Core.Bool.{Bool, cond, not, ◌||◌}
use mathlib.Core.Path.{◌≡◌, refl, ◌∙◌}
use mathlib.Core.List.{List}
use Prim.Native.Nat.{ℕ}
use borrow.Author.Tests.{ltb-false, eq-eqb, not-false}
use lib.Dec.{ltb, eqb, lit<}
use lib.ListN.{length, drop_of_length-le}
use Rattle.rules.specs.Verdict.{Verdict}
use Rattle.rules.specs.Verdict.{Accepted, Version, Layout, Parts}
use Rattle.rules.specs.Refusal.{and_then}
use Rattle.rules.specs.Limits.{version, last_edition, up_to, list_header, term_header}
use Rattle.rules.specs.ReadList.{list_u, list_n, decode, part_refusal}
use Rattle.rules.specs.Term.{next}
use Rattle.rules.specs.Parts.{after, inside}
use Rattle.rules.specs.ReadTerm.{lists_of, pages_of, counts_of, positions_of, disagree, term_refusal}
use Rattle.laws.proofs.RefusalLaws.{and_then_next, and_then_both, test_passed, equal_passed, or_parts}
use Rattle.laws.proofs.HeadLaws.{head_next, head_passed}
use Rattle.termlaws.specs.Words.{Passed}

module _ (v : ℕ) (s : List ℕ) where
  -- the tests behind the version that is told
  abbrev parts_tests : Verdict
  parts_tests =
      and_then (inside list_header (part_refusal v) (lists_of s))
      (and_then (inside list_header (part_refusal version) (after 1 (lists_of s)))
      (and_then (inside list_header (part_refusal version) (after 2 (lists_of s)))
      (cond (ltb 0 (length (after 3 (lists_of s)))) Layout
      (cond (disagree s) Parts Accepted))))

  -- the tests behind the first three
  abbrev tests : Verdict
  tests = cond (not (up_to last_edition v)) Version parts_tests

  pub passed_accepted : Passed v s → term_refusal v s ≡ Accepted
  unfolding term_refusal disagree
  passed_accepted p =
      head_next term_header version s tests p.head
      ∙ rw (
        p.known,
        p.pages_pass,
        p.counts_pass,
        p.positions_pass,
        p.no_more,
        eq-eqb (list_n (counts_of s)) (list_n (pages_of s)) p.counts_n,
        eq-eqb (list_u (counts_of s)) (next 0 (decode (counts_of s))) p.counts_U,
        eq-eqb (list_n (positions_of s)) (list_u (counts_of s)) p.positions_n,
        eq-eqb (list_u (positions_of s)) (next 0 (decode (positions_of s))) p.positions_U,
      )
      (and_then_next Accepted (and_then Accepted (and_then Accepted Accepted)) refl
      ∙ and_then_next Accepted (and_then Accepted Accepted) refl ∙ and_then_next Accepted Accepted refl)

  pub accepted_passed : term_refusal v s ≡ Accepted → Passed v s
  unfolding term_refusal disagree
  accepted_passed e =
      let l : List ℕ = lists_of s in
      let d4 : Bool = not (eqb (list_u (positions_of s)) (next 0 (decode (positions_of s)))) in
      let d3 : Bool = not (eqb (list_n (positions_of s)) (list_u (counts_of s))) in
      let d2 : Bool = not (eqb (list_u (counts_of s)) (next 0 (decode (counts_of s)))) in
      let d1 : Bool = not (eqb (list_n (counts_of s)) (list_n (pages_of s))) in
      let t8 : Verdict = cond (d1 || (d2 || (d3 || d4))) Parts Accepted in
      let t7 : Verdict = cond (ltb 0 (length (after 3 l))) Layout t8 in
      let t6 : Verdict = and_then (inside list_header (part_refusal version) (after 2 l)) t7 in
      let t5 : Verdict = and_then (inside list_header (part_refusal version) (after 1 l)) t6 in
      let t4 : Verdict = and_then (inside list_header (part_refusal v) l) t5 in
      let c = head_passed term_header version s (cond (not (up_to last_edition v)) Version t4) e in
      let k = test_passed (not (up_to last_edition v)) Version t4 (lit< tt) c.1 in
      let f = and_then_both (inside list_header (part_refusal v) l) t5 k.1 in
      let g = and_then_both (inside list_header (part_refusal version) (after 1 l)) t6 f.1 in
      let h = and_then_both (inside list_header (part_refusal version) (after 2 l)) t7 g.1 in
      let i = test_passed (ltb 0 (length (after 3 l))) Layout t8 (lit< tt) h.1 in
      let j = test_passed (d1 || (d2 || (d3 || d4))) Parts Accepted (lit< tt) i.1 in
      let o1 = or_parts d1 (d2 || (d3 || d4)) j.0 in
      let o2 = or_parts d2 (d3 || d4) o1.1 in
      let o3 = or_parts d3 d4 o2.1 in
      record {
        head = c.0;
        known = not-false (up_to last_edition v) k.0;
        pages_pass = f.0;
        counts_pass = g.0;
        positions_pass = h.0;
        no_more = drop_of_length-le (after 3 l) {i = 0} (ltb-false 0 (length (after 3 l)) i.0);
        counts_n = equal_passed (list_n (counts_of s)) (list_n (pages_of s)) o1.0;
        counts_U = equal_passed (list_u (counts_of s)) (next 0 (decode (counts_of s))) o2.0;
        positions_n = equal_passed (list_n (positions_of s)) (list_u (counts_of s)) o3.0;
        positions_U = equal_passed (list_u (positions_of s)) (next 0 (decode (positions_of s))) o3.1;
      }

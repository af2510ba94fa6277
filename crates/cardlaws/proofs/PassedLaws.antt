-- Laws of the refusals of an index and of closing one: they are Accepted exactly when every test has passed.
use mathlib.Core.Bool.{true, cond, not, ◌||◌, ◌&&◌}
use mathlib.Core.Path.{◌≡◌, ◌∙◌}
use mathlib.Core.List.{List}
use Prim.Native.Nat.{ℕ, ◌+◌}
use borrow.Author.Tests.{le-ltb, lt-ltb, ltb-false, ltb-true, le-leb, lt-leb, leb-true, leb-false}
use borrow.Author.Tests.{not-false}
use lib.Dec.{ltb, leb, lit<}
use lib.ListN.{length, take, drop}
use Rattle.rules.specs.Verdict.{Verdict}
use Rattle.rules.specs.Verdict.{Accepted, Short, Version, Limit, Room}
use Rattle.rules.specs.Limits.{limit, term_limit, last_edition, up_to, index_header, four_bytes}
use Rattle.rules.specs.Term.{Word}
use Rattle.rules.specs.Index.{terms, valid_words, valid_card, index_v, index_n, index_t, terms_refusal, index_refusal}
use Rattle.rules.specs.Index.{close_refusal}
use Rattle.laws.proofs.RefusalLaws.{test_passed, or_parts}
use Rattle.laws.proofs.HeadLaws.{head_next, head_passed}
use Rattle.listlaws.proofs.RisingLaws.{and_parts}
use Rattle.cardlaws.specs.Cards.{Valid, Passed, Closable}

-- ---- a valid card

module _ (ver N : ℕ) (ts : List Word) where
  pub card_valid : valid_card ver N ts ≡ true → Valid ver N ts
  unfolding valid_card
  card_valid v =
      let e : ℕ = index_header + length (terms ver N ts) in
      let k = and_parts (up_to last_edition ver) (leb N limit && (leb (length ts) term_limit && (valid_words N ts && ltb e four_bytes))) v in
      let a = and_parts (leb N limit) (leb (length ts) term_limit && (valid_words N ts && ltb e four_bytes)) k.1 in
      let b = and_parts (leb (length ts) term_limit) (valid_words N ts && ltb e four_bytes) a.1 in
      let c = and_parts (valid_words N ts) (ltb e four_bytes) b.1 in
      record {
        known = k.0;
        within = leb-true N limit a.0;
        few = leb-true (length ts) term_limit b.0;
        words = c.0;
        short = ltb-true e four_bytes c.1;
      }

  pub valid_card_lem : Valid ver N ts → valid_card ver N ts ≡ true
  unfolding valid_card
  valid_card_lem v = rw (v.known, le-leb N limit v.within, le-leb (length ts) term_limit v.few, v.words)
      (lt-ltb (index_header + length (terms ver N ts)) four_bytes v.short)

-- ---- an index

module _ (s : List ℕ) where
  -- the tests behind the first three
  abbrev tests : Verdict
  tests = cond (ltb limit (index_n s) || ltb term_limit (index_t s)) Limit
      (terms_refusal (index_v s) (index_t s) (index_n s) (drop index_header s))

  pub passed_accepted : Passed s → index_refusal s ≡ Accepted
  unfolding index_refusal index_v
  passed_accepted p = head_next index_header last_edition s tests p.head
      ∙ rw (le-ltb limit (index_n s) p.within, le-ltb term_limit (index_t s) p.few) p.terms_pass

  pub accepted_passed : index_refusal s ≡ Accepted → Passed s
  unfolding index_refusal index_v
  accepted_passed e =
      let a = head_passed index_header last_edition s tests e in
      let d = test_passed (ltb limit (index_n s) || ltb term_limit (index_t s)) Limit
      (terms_refusal (index_v s) (index_t s) (index_n s) (drop index_header s)) (lit< tt) a.1 in
      let o = or_parts (ltb limit (index_n s)) (ltb term_limit (index_t s)) d.0 in
      record {
        head = a.0;
        within = ltb-false limit (index_n s) o.0;
        few = ltb-false term_limit (index_t s) o.1;
        terms_pass = d.1;
      }

-- ---- closing

module _ (buffer : List ℕ) (used ver N T : ℕ) where
  pub closable_accepted : Closable buffer used ver N T → close_refusal buffer used ver N T ≡ Accepted
  unfolding close_refusal
  closable_accepted c =
      rw (
        le-ltb (length buffer) used c.fits,
        le-ltb used index_header c.header,
        c.known,
        lt-leb four_bytes used c.short,
        le-ltb limit N c.within,
        le-ltb term_limit T c.few,
      )
      c.terms_pass

  pub accepted_closable : close_refusal buffer used ver N T ≡ Accepted → Closable buffer used ver N T
  unfolding close_refusal
  accepted_closable e =
      let t3 : Verdict = terms_refusal ver T N (drop index_header (take used buffer)) in
      let t2 : Verdict = cond (leb four_bytes used || (ltb limit N || ltb term_limit T)) Limit t3 in
      let k2 : Verdict = cond (not (up_to last_edition ver)) Version t2 in
      let t1 : Verdict = cond (ltb used index_header) Short k2 in
      let a = test_passed (ltb (length buffer) used) Room t1 (lit< tt) e in
      let b = test_passed (ltb used index_header) Short k2 (lit< tt) a.1 in
      let k = test_passed (not (up_to last_edition ver)) Version t2 (lit< tt) b.1 in
      let c = test_passed (leb four_bytes used || (ltb limit N || ltb term_limit T)) Limit t3 (lit< tt) k.1 in
      let o = or_parts (leb four_bytes used) (ltb limit N || ltb term_limit T) c.0 in
      let p = or_parts (ltb limit N) (ltb term_limit T) o.1 in
      record {
        fits = ltb-false (length buffer) used a.0;
        header = ltb-false used index_header b.0;
        known = not-false (up_to last_edition ver) k.0;
        short = leb-false four_bytes used o.0;
        within = ltb-false limit N p.0;
        few = ltb-false term_limit T p.1;
        terms_pass = c.1;
      }

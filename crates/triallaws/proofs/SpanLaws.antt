-- Laws of a page's positions, which its rank finds among those of all pages.
use mathlib.Core.Bool.{true}
use mathlib.Core.Path.{◌≡◌, refl, sym, ap, ap₂, ◌∙◌}
use mathlib.Core.List.{List, [], ◌∷◌}
use Prim.Native.Nat.{ℕ, zero, suc, ◌+◌, ◌-◌, ◌≤◌, ◌<◌}
use native.Mathlib.Nat.{sub-zero}
use native.Mathlib.Numerals.{add-one}
use native.Mathlib.Decide.{ℕ_discrete}
use native.Mathlib.Omega.{arith}
use borrow.Author.Tests.{eq-eqb, ne_eqb}
use lib.ListN.{length, get_or, take, drop}
use lib.Seq.{slice, drop_at, drop-drop, take-add}
use Rattle.rules.specs.List.{rising}
use Rattle.rules.specs.Term.{total, next, in_order}
use Rattle.rules.specs.Verdict.{Accepted}
use Rattle.rules.specs.ReadList.{list_u, decode}
use Rattle.rules.specs.ReadTerm.{pages_of, counts_of, positions_of, gaps, less, lowered, read_word, term_refusal}
use Rattle.rules.specs.Plain.{positions_among, positions_on}
use Rattle.termlaws.proofs.PassedLaws.{accepted_passed}
use Rattle.termlaws.proofs.ReadLaws.{pages_listed, counts_listed, positions_listed, total_places}
use Rattle.listlaws.proofs.RisingLaws.{rising_parts, rising_at}
use Rattle.termlaws.proofs.OrderLaws.{order_parts, next_append, next_le}
use Rattle.termlaws.proofs.PlaceLaws.{page_length, page_order, lowered_take, lowered_drop}
use Rattle.seeklaws.specs.Cursors.{first_at}
use Rattle.seeklaws.proofs.FirstLaws.{rising_lt, first_at_unique}
use Rattle.span.specs.Walks.{past}
use Rattle.span.proofs.WalkLaws.{past_none, past_some, past_le, past_lt, past_mono}
use Rattle.phrase.specs.Pages.{on_page}
use Rattle.triallaws.specs.Spans.{positions_before, PageIn}

-- number i is that of the first element past those before it
pub first_past : (U : ℕ) (xs : List ℕ) → rising 0 U xs ≡ true → (i : ℕ) → i ≤ length xs → first_at (past xs i) xs ≡ i
first_past U xs r zero h =
    first_at_unique (past xs 0) xs 0 h (λ j l. absurd (omega arith)) (λ l. rw (past_none xs) (omega arith))
first_past U xs r (suc i) h =
    let e : suc i - 1 ≡ i = omega arith in
    let p : past xs (suc i) ≡ get_or xs i 0 + 1 = rw e at (past_some xs (suc i) (omega arith) h) in
    first_at_unique (past xs (suc i)) xs (suc i) h
    (λ j l. elim (ℕ_discrete j i) [
      | yes d ↦ rw (p, d) (omega arith)
      | no d ↦ omega
          (arith, p, rising_lt 0 U xs r j i (omega arith) (omega arith))
    ])
    (λ l. omega (arith, p, rising_lt 0 U xs r i (suc i) (omega arith) l))

-- a part of what is left after c elements
slice_past : (c m n : ℕ) (es : List ℕ) → length (take c es) ≡ c → slice m n (drop c es) ≡ slice (c + m) (c + n) es
slice_past c m n es l =
    ap (drop m) (sym (drop_at (take c es) (take n (drop c es)) c l) ∙ ap (drop c) (sym (take-add c n es)))
    ∙ drop-drop m c (take (c + n) es)

next_past : (b c m : ℕ) (es : List ℕ) → next (next b (take c es)) (take m (drop c es)) ≡ next b (take (c + m) es)
next_past b c m es = sym (next_append b (take c es) (take m (drop c es))) ∙ ap (next b) (sym (take-add c m es))

-- the positions on page number r of the pages qs, of which the first has the elements from number 0 of es on
among_rank : (r lo N s b : ℕ) (qs ks es : List ℕ) → rising lo N qs ≡ true → in_order s ks ≡ true → length qs ≡ length ks
    → total (gaps s ks) ≡ length es → r < length qs
    → positions_among (get_or qs r 0) qs (gaps s ks) (lowered b (gaps s ks) es)
    ≡ less (next b (take (next s (take r ks) - s) es))
    (slice (next s (take r ks) - s) (next s (take (suc r) ks) - s) es)
unfolding positions_among gaps next
among_rank r lo N s b [] ks es o p l t h = absurd (omega arith)
among_rank r lo N s b (q ∷ qs) [] es o p l t h = absurd (omega arith)
among_rank zero lo N s b (q ∷ qs) (k ∷ ks) es o p l t h =
    let z : s - s ≡ 0 = omega arith in
    rw (eq-eqb q q refl, positions_among, lowered_take b (k + 1 - s) (gaps (k + 1) ks) es t, z)
among_rank (suc r) lo N s b (q ∷ qs) (k ∷ ks) es o p l t h =
    let c : ℕ = k + 1 - s in
    let x = rising_parts lo N q qs o in
    let y = order_parts s k ks p in
    let g = rising_at (q + 1) N qs x.2 r (omega arith) in
    let len = page_length c (gaps (k + 1) ks) es t in
    let f : ℕ = next (k + 1) (take r ks) in
    let f' : ℕ = next (k + 1) (take (suc r) ks) in
    let m : k + 1 ≤ f = next_le (k + 1) (take r ks) (page_order (k + 1) r ks y.1).0 in
    let m' : k + 1 ≤ f' = next_le (k + 1) (take (suc r) ks) (page_order (k + 1) (suc r) ks y.1).0 in
    let e : c + (f - (k + 1)) ≡ f - s = omega (arith, y.0) in
    let e' : c + (f' - (k + 1)) ≡ f' - s = omega (arith, y.0) in
    let ih =
    among_rank r (q + 1) N (k + 1) (next b (take c es)) qs ks (drop c es) x.2 y.1 (omega arith) len.1
    (omega arith) in
    rw (ne_eqb (get_or qs r 0) q (λ d. omega (arith, g.0)), positions_among, lowered_drop b c (gaps (k + 1) ks) es t)
    (ih ∙ ap₂ less (next_past b c (f - (k + 1)) es ∙ ap (λ (i : ℕ). next b (take i es)) e)
    (slice_past c (f - (k + 1)) (f' - (k + 1)) es len.0 ∙ ap₂ (λ (i j : ℕ). slice i j es) e e'))

module _ (v : ℕ) (s : List ℕ) (a : term_refusal v s ≡ Accepted) where
  abbrev ps : List ℕ
  ps = decode (pages_of s)

  abbrev cs : List ℕ
  cs = decode (counts_of s)

  abbrev es : List ℕ
  es = decode (positions_of s)

  lengths : length ps ≡ length cs
  lengths = omega (arith, (pages_listed v s a).count, (counts_listed v s a).count, (accepted_passed v s a).counts_n)

  -- the first pages have no more positions than all
  before_le : (r : ℕ) → r ≤ length ps → positions_before s r ≤ length es
  before_le r h =
      omega (
        arith,
        past_le (list_u (counts_of s)) cs (counts_listed v s a).rises r (omega (arith, lengths)),
        (positions_listed v s a).count,
        (accepted_passed v s a).positions_n,
      )

  pub before_mono : (r q : ℕ) → r ≤ q → q ≤ length ps → positions_before s r ≤ positions_before s q
  before_mono r q l h = past_mono (list_u (counts_of s)) cs (counts_listed v s a).rises r q l (omega (arith, lengths))

  -- the positions on page number r
  pub page_in : (r : ℕ) → r < length ps → PageIn s r
  unfolding positions_on read_word on_page
  page_in r h =
      let g =
      among_rank r 0 (list_u (pages_of s)) 0 0 ps cs es (pages_listed v s a).rises (counts_listed v s a).ordered lengths
      (total_places v s a) h in
      let x =
      first_past (list_u (positions_of s)) es (positions_listed v s a).rises (past cs r) (before_le r (omega arith)) in
      record {
        some =
            past_lt (list_u (counts_of s)) cs (counts_listed v s a).rises r (r + 1) (omega arith)
            (omega (arith, lengths));
        within = before_le (r + 1) (omega arith);
        positions_are = rw (x, add-one) (unfold past in simp sub-zero at g);
      }

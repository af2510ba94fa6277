-- A question's words on a page: their positions there as a walk finds them, and the starts of a word alone.
use mathlib.Core.Bool.{true}
use mathlib.Core.Path.{◌≡◌, sym, ap, ◌∙◌}
use mathlib.Core.List.{List, [], ◌∷◌}
use Prim.Native.Nat.{ℕ, ◌+◌, ◌-◌, ◌≤◌, ◌<◌}
use native.Mathlib.Omega.{arith}
use lib.ListN.{length, get_or}
use Rattle.rules.specs.Verdict.{Accepted}
use Rattle.rules.specs.List.{rising}
use Rattle.rules.specs.ReadList.{list_u, decode}
use Rattle.rules.specs.ReadTerm.{pages_of, positions_of, read_word, term_refusal}
use Rattle.rules.specs.Index.{index_v, term_part, word_of}
use Rattle.rules.specs.Plain.{positions_on, phrase_of, starts}
use Rattle.rules.specs.Questions.{words_in}
use Rattle.termlaws.proofs.ReadLaws.{positions_listed}
use Rattle.seeklaws.specs.Cursors.{first_at}
use Rattle.seeklaws.proofs.FirstLaws.{rising_lt, rising_below}
use Rattle.querylaws.specs.Lists.{part_at}
use Rattle.span.specs.Walks.{past}
use Rattle.span.proofs.WalkLaws.{past_le}
use Rattle.turning.specs.Words.{elements_at, base_in, end_in}
use Rattle.phrase.specs.Pages.{on_page, page_at}
use Rattle.phrase.proofs.PageLaws.{page_length, page_at_lem, page_from}
use Rattle.triallaws.specs.Spans.{positions_before, PageIn, TermAt}
use Rattle.triallaws.specs.Asked.{phrase_at, term_at}
use Rattle.triallaws.proofs.SpanLaws.{first_past, page_in}
use Rattle.triallaws.proofs.StartLaws.{Rises, starts_alone}

-- ---- a word's span

module _ (s sh ws : List ℕ) (p i : ℕ) (t : List ℕ) (at : TermAt s sh ws p i t) where
  on_page_lem : PageIn t at.rank
  on_page_lem = page_in (index_v s) t at.accepts at.rank at.ranked

  -- the positions of word i on the page are the term's
  pub page_positions : page_at s sh ws i ≡ positions_on p (read_word t)
  unfolding page_at
  page_positions =
      rw (at.part_is, at.base_is, at.end_is)
      (sym on_page_lem.positions_are ∙ ap (λ (q : ℕ). positions_on q (read_word t)) at.page_is)

  -- its span lies among its elements
  pub page_bounds : (end_in ws i ≤ length (elements_at s sh i)) × (base_in ws i ≤ list_u (part_at s sh i))
  page_bounds = (
    rw (at.part_is, at.end_is) on_page_lem.within,
    rw (at.part_is, at.base_is)
        (past_le (list_u (positions_of t)) (decode (positions_of t)) (positions_listed (index_v s) t at.accepts).rises
        (positions_before t at.rank)
        (omega (arith, on_page_lem.some, on_page_lem.within))),
  )

-- ---- the positions of a word on a page

page_rises : (U : ℕ) (es : List ℕ) → rising 0 U es ≡ true → (base to : ℕ) → to ≤ length es
    → Rises 0 U (on_page es base to)
page_rises U es rises base to within =
    let f : ℕ = first_at base es in
    let size : length (on_page es base to) ≡ to - f = page_length U es rises base to within in
    record {
      below = λ j h.
          let l : f + j < to = omega (arith, size) in (
            omega arith,
            omega (
              arith,
              page_at_lem U es rises base to within j l,
              rising_below 0 U es rises (f + j) (omega arith),
            ),
          );
      up = λ i j l h.
          let m : f + j < to = omega (arith, size) in
          omega (
            arith,
            page_at_lem U es rises base to within i (omega arith),
            page_at_lem U es rises base to within j m,
            page_from U es rises base to within (f + i) (omega arith) (omega arith),
            rising_lt 0 U es rises (f + i) (f + j) (omega arith) (omega arith),
          );
    }

module _ (v : ℕ) (t : List ℕ) (a : term_refusal v t ≡ Accepted) (rank : ℕ) (h : rank < length (decode (pages_of t)))
    (p : ℕ) (e : get_or (decode (pages_of t)) rank 0 ≡ p) where
  abbrev positions : List ℕ
  positions = decode (positions_of t)

  there : PageIn t rank
  there = page_in v t a rank h

  positions_are : positions_on p (read_word t)
      ≡ on_page positions (past positions (positions_before t rank)) (positions_before t (rank + 1))
  positions_are = sym (ap (λ (q : ℕ). positions_on q (read_word t)) e) ∙ there.positions_are

  -- they rise
  pub positions_rise : Rises 0 (list_u (positions_of t)) (positions_on p (read_word t))
  positions_rise =
      rw positions_are (page_rises (list_u (positions_of t)) positions (positions_listed v t a).rises
      (past positions (positions_before t rank)) (positions_before t (rank + 1)) there.within)

-- a word alone starts at each of its positions
pub lone_starts : (s ts ds : List ℕ) (p rank : ℕ) → length ts ≡ 1 → 0 < length ds → get_or ds 0 0 ≡ 0
    → term_refusal (index_v s) (term_at s ts 0) ≡ Accepted → rank < length (decode (pages_of (term_at s ts 0)))
    → get_or (decode (pages_of (term_at s ts 0))) rank 0 ≡ p
    → positions_before (term_at s ts 0) (rank + 1) - positions_before (term_at s ts 0) rank ≡ starts (phrase_at s ts ds) p
unfolding phrase_of words_in word_of
lone_starts s [] ds p rank l n z a r e = absurd (omega arith)
lone_starts s (x ∷ (y ∷ ts)) ds p rank l n z a r e = absurd (omega arith)
lone_starts s (x ∷ []) [] p rank l n z a r e = absurd (omega arith)
lone_starts s (x ∷ []) (d ∷ ds) p rank l n z a r e =
    let t : List ℕ = term_part x s in
    let es : List ℕ = decode (positions_of t) in
    let U : ℕ = list_u (positions_of t) in
    let g = page_in (index_v s) t a rank r in
    let rises = (positions_listed (index_v s) t a).rises in
    let f = first_past U es rises (positions_before t rank) (omega (arith, g.some, g.within)) in
    let size = page_length U es rises (past es (positions_before t rank)) (positions_before t (rank + 1)) g.within in
    let is = sym g.positions_are ∙ ap (λ (q : ℕ). positions_on q (read_word t)) e in
    sym (starts_alone (record { word = read_word t; offset = d }) z p ∙ ap length (sym is) ∙ size
    ∙ ap (λ (n : ℕ). positions_before t (rank + 1) - n) f)

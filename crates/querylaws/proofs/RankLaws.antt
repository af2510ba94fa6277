-- After the next common page each cursor is on it, and tells its rank.
use mathlib.Core.Path.{◌≡◌, sym, ap, ◌∙◌}
use mathlib.Core.List.{List}
use Prim.Native.Nat.{ℕ, zero, suc, ◌+◌, ◌-◌, ◌≤◌, ◌<◌}
use native.Mathlib.Decide.{ℕ_discrete}
use native.Mathlib.Omega.{arith}
use lib.ListN.{length, get_or}
use Rattle.rules.specs.Seek.{on, cursor_bit}
use Rattle.rules.specs.Plain.{below}
use Rattle.rules.specs.Common.{Reader}
use Rattle.seeklaws.proofs.FirstLaws.{first_at_self, below_first}
use Rattle.commonlaws.specs.Readers.{OnPage, AllOnPage}
use Rattle.walklaws.specs.Cursors.{spent_mark, mark_of, Held}
use Rattle.walklaws.proofs.CursorLaws.{held_rule}
use Rattle.querylaws.specs.declared.Query.{Query}
use Rattle.querylaws.specs.declared.Turn.{Turn}
use Rattle.querylaws.specs.Lists.{span, form_in, pages_at, bound_in, ListAt}
use Rattle.querylaws.specs.Queries.{cursor_in, reader_at, Apt, Turned}
use Rattle.querylaws.specs.Ranks.{rank_of, rank_by, OnElement}
use Rattle.querylaws.proofs.ListLaws.{list_rises, list_within}
use Rattle.querylaws.proofs.RunLaws.{came}
use Rattle.querylaws.proofs.SpanLaws.{span_cons}
use Rattle.querylaws.proofs.TurnLaws.{turned_page}

-- ---- one cursor on a page

-- cursor i is on page c, of that rank in its list
pub record Ranked (s sh : List ℕ) (q : Query) (i c : ℕ) : Type 0 where
  pub on_element : OnElement s sh i (cursor_in q i).mark (cursor_in q i).bit
  pub marked : (cursor_in q i).mark ≡ c + 1
  pub within : rank_by s sh q i < length (pages_at s sh i)
  pub there : get_or (pages_at s sh i) (rank_by s sh q i) 0 ≡ c

pub ranked : (s sh : List ℕ) (q : Query) (i c : ℕ) → ListAt s sh i
    → Held (form_in s sh i) (bound_in sh) (pages_at s sh i) (cursor_in q i)
    → OnPage c (reader_at s sh q i) → Ranked s sh q i c
unfolding reader_at rank_of mark_of cursor_bit
ranked s sh q i c l h p =
    let f = form_in s sh i in
    let U = bound_in sh in
    let xs = pages_at s sh i in
    let cu = cursor_in q i in
    let rises = list_rises s sh i l in
    let e : h.place ≡ on p.rank = sym (held_rule f U xs rises (list_within s sh i l) cu h) ∙ p.stands in
    let m : cu.mark ≡ get_or xs p.rank 0 + 1 = h.mark_is ∙ ap (mark_of xs) e in
    let page : cu.mark - 1 ≡ get_or xs p.rank 0 = omega (arith, m) in
    let r : below (cu.mark - 1) xs ≡ p.rank =
    rw page (below_first (get_or xs p.rank 0) 0 U xs rises ∙ first_at_self 0 U xs rises p.rank p.within) in
    record {
      on_element = record {
        list = l;
        number = p.rank;
        inside = p.within;
        marked = m;
        placed = h.bit_is ∙ ap (cursor_bit f U xs) e;
      };
      marked = omega (arith, m, p.there);
      within = rw r p.within;
      there = rw r p.there;
    }

-- ---- all of them

pub all_on : (c : ℕ) (f : ℕ → Reader) (n i : ℕ) → AllOnPage c (span f i n) → (j : ℕ) → i ≤ j → j < i + n
    → OnPage c (f j)
unfolding span
all_on c f zero i a j l h = absurd (omega arith)
all_on c f (suc n) i a j l h =
    elim (ℕ_discrete j i) [
      | yes e ↦ rw e a.0
      | no e ↦ all_on c f n (i + 1) a.1 j (omega arith) (omega arith)
    ]

pub turned_ranked : (s sh : List ℕ) (k : ℕ) (q : Query) (b : ℕ) → Apt s sh k q b → (t : Turn) → Turned s sh k q b t
    → (t.mark ≡ spent_mark → ⊥)
    → (i : ℕ) → i < k → Ranked s sh t.q i (t.mark - 1)
turned_ranked s sh k q b a t u m i h =
    let p = turned_page s sh k q b a t u m in
    let c = p.0 in
    let hit = rw p.3 at (came s sh k q b a).ends in
    let z : k - 0 ≡ k = omega arith in
    let on : AllOnPage c (span (reader_at s sh t.q) 0 k) =
    rw (rw z at (span_cons (reader_at s sh t.q) 0 k a.lists.some), u.lead, u.others) hit.on_page_lem in
    let d : t.mark - 1 ≡ c = omega (arith, p.2) in
    let next = (u.running t.mark m (omega arith)).apt in
    rw d (ranked s sh t.q i c (a.lists.each i h) (next.held i h)
    (all_on c (reader_at s sh t.q) k 0 on i (omega arith) (omega arith)))

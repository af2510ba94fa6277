-- Laws of a query after one seek: which reader moved, what the counts are, and what is left of the next common page.
use mathlib.Core.Path.{◌≡◌, refl, sym, ap, ◌∙◌}
use mathlib.Core.List.{List, [], ◌∷◌}
use Prim.Native.Nat.{ℕ, zero, suc, ◌+◌, ◌-◌, ◌≤◌, ◌<◌, max}
use native.Mathlib.Numerals.{add-one}
use native.Mathlib.Decide.{ℕ_discrete}
use native.Mathlib.Omega.{arith}
use borrow.Author.Tests.{eq-eqb, ne_eqb}
use lib.ListN.{length, get_or, set, drop, length-set, length-drop}
use lib.Seq.{drop-cons, get_or-set_same, get_or-set_other}
use Rattle.rules.specs.Seek.{Cursor as Placing, fresh, on, spent, none, page, Sought, cursor_bit}
use Rattle.rules.specs.Common.{seek_by, moved_by}
use Rattle.seeklaws.specs.Cursors.{Placed, first_at, cursor_at, floor}
use Rattle.seeklaws.proofs.FirstLaws.{rising_below}
use Rattle.seeklaws.proofs.SeekLaws.{seek_answered}
use Rattle.commonlaws.specs.Readers.{moved}
use Rattle.commonlaws.specs.Next.{Next, stop, plus}
use Rattle.commonlaws.proofs.AgreeLaws.{moved_ready, ready_more, sought_least}
use Rattle.commonlaws.proofs.LoopLaws.{plus_plus}
use Rattle.walklaws.specs.declared.Cursor.{Cursor}
use Rattle.walklaws.specs.Cursors.{spent_mark, unused, mark_of, held, rank_in, rule_cursor, Held, moved_to, found_by}
use Rattle.walklaws.proofs.CursorLaws.{held_rule}
use Rattle.walklaws.proofs.MoveLaws.{moved_held, moved_rule, moved_seeks, moved_looks, moved_found}
use Rattle.querylaws.specs.declared.Query.{Query}
use Rattle.querylaws.specs.Lists.{form_in, pages_at, bound_in, ListAt}
use Rattle.querylaws.specs.Queries.{cursor_in, with_cursor, reader_at, lead_in, others_in, moved_in, total}
use Rattle.querylaws.specs.Queries.{seeks_of, looks_of, list_after, seek_on, Apt}
use Rattle.querylaws.proofs.PendingLaws.{pending, Moves, pending_end, pending_none, pending_page}
use Rattle.querylaws.proofs.ListLaws.{list_within, list_rises}

-- ---- totals

module _ (f : Cursor → ℕ) where
  total_set : (cs : List Cursor) (i : ℕ) (c : Cursor) → i < length cs
      → total f (set cs i c) + f (get_or cs i unused) ≡ total f cs + f c
  unfolding total
  total_set [] i c h = absurd (omega arith)
  total_set (x ∷ cs) zero c h = omega arith
  total_set (x ∷ cs) (suc i) c h = omega (arith, total_set cs i c (omega arith))

  pub total_drop : (cs : List Cursor) (i : ℕ) → i < length cs
      → total f (drop i cs) ≡ f (get_or cs i unused) + total f (drop (i + 1) cs)
  total_drop cs i h = rw (drop-cons cs i unused h, add-one i) (unfold total in refl)

  pub total_none : (cs : List Cursor) (i : ℕ) → length cs ≤ i → total f (drop i cs) ≡ 0
  total_none cs i h =
      let e : length (drop i cs) ≡ 0 = omega (arith, length-drop i cs) in
      go (drop i cs) e
    where
      go : (ds : List Cursor) → length ds ≡ 0 → total f ds ≡ 0
      go [] e = unfold total in refl
      go (d ∷ ds) e = absurd (omega arith)

  pub total_at : (cs : List Cursor) (i : ℕ) → i < length cs → f (get_or cs i unused) ≤ total f cs
  unfolding total
  total_at [] i h = absurd (omega arith)
  total_at (x ∷ cs) zero h = omega arith
  total_at (x ∷ cs) (suc i) h = omega (arith, total_at cs i (omega arith))

-- ---- one seek

at_some : (xs : List ℕ) (i : ℕ) → 0 < mark_of xs (cursor_at xs i)
unfolding mark_of cursor_at
at_some xs i = elim (ℕ_discrete i (length xs)) [
  | yes e ↦ rw (eq-eqb i (length xs) e) (omega arith)
  | no e ↦ rw (ne_eqb i (length xs) e) (omega arith)
]

-- what is left of the next common page
abbrev pub to_come : List ℕ → List ℕ → ℕ → Query → ℕ → ℕ → Next
to_come s sh k q i b = pending (bound_in sh) k (reader_at s sh q) i b

-- that, with the seeks and looks so far in front
abbrev pub left : List ℕ → List ℕ → ℕ → Query → ℕ → ℕ → Next
left s sh k q i b = plus (seeks_of q) (looks_of q) (to_come s sh k q i b)

-- the query after its seeks
abbrev pub end_of : List ℕ → List ℕ → ℕ → Query → ℕ → ℕ → Query
end_of s sh k q i b = seek_on s sh (to_come s sh k q i b).seeks q i b

-- where all lists are sought nothing is left
none_left : (s sh : List ℕ) (k : ℕ) (q : Query) (b : ℕ) → 0 < k → (to_come s sh k q k b).seeks ≡ 0
none_left s sh k q b h =
    ap (λ (n : Next). n.seeks) (pending_end (bound_in sh) k b (reader_at s sh q) h) ∙ (unfold stop in refl)

pub end_all : (s sh : List ℕ) (k : ℕ) (q : Query) (b : ℕ) → 0 < k → end_of s sh k q k b ≡ q
end_all s sh k q b h = rw (none_left s sh k q b h) (unfold seek_on in refl)

module _ (s sh : List ℕ) (k : ℕ) (q : Query) (b : ℕ) (a : Apt s sh k q b) (i : ℕ) (h : i < k) where
  list : ListAt s sh i
  list = a.lists.each i h

  inside : i < length q.cursors
  inside = omega (arith, a.eight, list.few)

  abbrev next : Cursor
  next = moved_in s sh i (cursor_in q i) b

  abbrev after : Query
  after = with_cursor q i next

  abbrev this : Sought
  this = seek_by (bound_in sh) (reader_at s sh q i) b

  next_held : Held (form_in s sh i) (bound_in sh) (pages_at s sh i) next
  next_held = moved_held (form_in s sh i) (bound_in sh) (pages_at s sh i) (list_rises s sh i list)
      (list_within s sh i list) (cursor_in q i) (a.held i h) b

  pub seek_moves : Moves (bound_in sh) b i (reader_at s sh q) (reader_at s sh after)
  unfolding reader_at moved moved_by seek_by
  seek_moves = record {
    here = rw (
      get_or-set_same q.cursors i next unused inside,
      moved_rule (form_in s sh i) (bound_in sh) (pages_at s sh i) (list_rises s sh i list)
          (list_within s sh i list) (cursor_in q i) (a.held i h) b,
    );
    there = λ j n. rw (get_or-set_other q.cursors i j next unused n);
  }

  pub seek_apt : (d : ℕ) → b ≤ d → Apt s sh k after d
  seek_apt d l = record {
    lists = a.lists;
    eight = length-set q.cursors i next ∙ a.eight;
    held = λ j m. elim (ℕ_discrete j i) [
      | yes e ↦ rw (e, get_or-set_same q.cursors i next unused inside) next_held
      | no e ↦ rw (get_or-set_other q.cursors i j next unused e) (a.held j m)
    ];
    ready = λ j m. elim (ℕ_discrete j i) [
      | yes e ↦ rw (e, seek_moves.here) (moved_ready (bound_in sh) b (reader_at s sh q i) (a.ready i h) d l)
      | no e ↦ rw (seek_moves.there j e) (ready_more (bound_in sh) b d (reader_at s sh q j) (a.ready j m) l)
    ];
  }

  pub seek_seeks : seeks_of after ≡ seeks_of q + 1
  unfolding seeks_of
  seek_seeks = omega (
    arith,
    total_set (λ c. c.seeks) q.cursors i next inside,
    moved_seeks (form_in s sh i) (bound_in sh) (pages_at s sh i) (list_rises s sh i list)
        (list_within s sh i list) (cursor_in q i) (a.held i h) b,
  )

  seek_looks : looks_of after ≡ looks_of q + this.looks
  unfolding looks_of reader_at seek_by
  seek_looks = omega (
    arith,
    total_set (λ c. c.looks) q.cursors i next inside,
    moved_looks (form_in s sh i) (bound_in sh) (pages_at s sh i) (list_rises s sh i list)
        (list_within s sh i list) (cursor_in q i) (a.held i h) b,
  )

  -- what the mark of the cursor says of the rule's seek
  found : this.found ≡ found_by (form_in s sh i) (bound_in sh) (pages_at s sh i) next
  unfolding reader_at seek_by
  found = sym (moved_found (form_in s sh i) (bound_in sh) (pages_at s sh i) (list_rises s sh i list)
      (list_within s sh i list) (cursor_in q i) (a.held i h) b)

  found_none : next.mark ≡ spent_mark → this.found ≡ none (length (pages_at s sh i))
  found_none e = found ∙ (unfold found_by in rw (eq-eqb next.mark spent_mark e))

  found_page : (next.mark ≡ spent_mark → ⊥)
      → this.found ≡ page (next.mark - 1) (rank_in (form_in s sh i) (bound_in sh) (pages_at s sh i) next)
  found_page e = found ∙ (unfold found_by in rw (ne_eqb next.mark spent_mark e))

  -- after a seek the cursor is not fresh
  pub mark_some : 0 < next.mark
  unfolding moved_to held
  mark_some =
      let p = a.held i h in
      let rises = list_rises s sh i list in
      let e = held_rule (form_in s sh i) (bound_in sh) (pages_at s sh i) rises (list_within s sh i list) (cursor_in q i) p in
      rw (seek_answered (form_in s sh i) (bound_in sh) (pages_at s sh i) rises
      (rule_cursor (form_in s sh i) (bound_in sh) (pages_at s sh i) (cursor_in q i)) b (rw e p.placed)).cursor
      (at_some (pages_at s sh i)
      (first_at (max (floor (bound_in sh) (pages_at s sh i) (rule_cursor (form_in s sh i) (bound_in sh) (pages_at s sh i) (cursor_in q i))) b)
      (pages_at s sh i)))

  -- and where it is spent it has no place
  pub spent_bit : next.mark ≡ spent_mark → next.bit ≡ 0
  unfolding mark_of cursor_bit
  spent_bit e = go next_held.place next_held.placed next_held.mark_is next_held.bit_is
    where
      go : (p : Placing) → Placed (pages_at s sh i) p → next.mark ≡ mark_of (pages_at s sh i) p
          → next.bit ≡ cursor_bit (form_in s sh i) (bound_in sh) (pages_at s sh i) p → next.bit ≡ 0
      go fresh l m t = t
      go spent l m t = t
      go (on j) l m t = absurd (omega (
        arith,
        e,
        m,
        rising_below 0 (bound_in sh) (pages_at s sh i) (list_rises s sh i list) j l,
        list_within s sh i list,
      ))

  -- what is left after it
  counted : (n : Next) → plus (seeks_of q) (looks_of q) (plus 1 this.looks n) ≡ plus (seeks_of after) (looks_of after) n
  counted n = plus_plus (seeks_of q) (looks_of q) 1 this.looks n ∙ rw (seek_seeks, seek_looks)

  abbrev then : ℕ
  then = next.mark - 1

  here_none : next.mark ≡ spent_mark → to_come s sh k q i b
      ≡ plus 1 this.looks (stop (none (length (pages_at s sh 0))) (lead_in s sh after) (others_in s sh k after))
  unfolding reader_at
  here_none e =
      pending_none (bound_in sh) k b (reader_at s sh q) (reader_at s sh after) a.ready i h seek_moves
      (length (pages_at s sh i)) (found_none e)

  here_page : (next.mark ≡ spent_mark → ⊥)
      → to_come s sh k q i b ≡ plus 1 this.looks (to_come s sh k after (list_after i b then) then)
  here_page e = pending_page (bound_in sh) k b (reader_at s sh q) (reader_at s sh after) a.ready i h seek_moves then
      (rank_in (form_in s sh i) (bound_in sh) (pages_at s sh i) next) (found_page e)

  pub left_none : next.mark ≡ spent_mark → left s sh k q i b ≡ plus (seeks_of after) (looks_of after)
      (stop (none (length (pages_at s sh 0))) (lead_in s sh after) (others_in s sh k after))
  left_none e =
      ap (plus (seeks_of q) (looks_of q)) (here_none e)
      ∙ counted (stop (none (length (pages_at s sh 0))) (lead_in s sh after) (others_in s sh k after))

  pub left_page : (next.mark ≡ spent_mark → ⊥)
      → left s sh k q i b ≡ left s sh k after (list_after i b then) then
  left_page e =
      ap (plus (seeks_of q) (looks_of q)) (here_page e) ∙ counted (to_come s sh k after (list_after i b then) then)

  -- and the query that the seeks to come lead to
  pub end_none : next.mark ≡ spent_mark → end_of s sh k q i b ≡ after
  unfolding plus stop
  end_none e = rw (ap (λ (n : Next). n.seeks) (here_none e)) (unfold seek_on in refl)

  pub end_page : (next.mark ≡ spent_mark → ⊥) → end_of s sh k q i b ≡ end_of s sh k after (list_after i b then) then
  unfolding plus
  end_page e =
      let n : ℕ = (to_come s sh k after (list_after i b then) then).seeks in
      let m : (to_come s sh k q i b).seeks ≡ suc n = ap (λ (n : Next). n.seeks) (here_page e) ∙ omega arith in
      rw m (unfold seek_on in refl)

  pub page_least : (next.mark ≡ spent_mark → ⊥) → b ≤ next.mark - 1
  page_least e = sought_least (bound_in sh) b (reader_at s sh q i) (a.ready i h) (next.mark - 1)
      (rank_in (form_in s sh i) (bound_in sh) (pages_at s sh i) next) (found_page e)

-- The first page at or above a bound, found as the next common page of one list.
use mathlib.Core.Bool.{true}
use mathlib.Core.Path.{◌≡◌, sym, ap, ◌∙◌}
use mathlib.Core.List.{List, [], ◌∷◌}
use Prim.Native.Nat.{ℕ, ◌-◌, ◌^◌, ◌<◌}
use native.Mathlib.Omega.{arith}
use borrow.Author.Tests.{ne_eqb}
use lib.ListN.{length, get_or}
use Rattle.rules.specs.List.{rising}
use Rattle.rules.specs.Seek.{none, page}
use Rattle.rules.specs.ReadList.{decode}
use Rattle.rules.specs.Plain.{first_from}
use Rattle.rules.specs.Questions.{numbered, by_bound}
use Rattle.seeklaws.specs.Cursors.{first_at}
use Rattle.seeklaws.proofs.FirstLaws.{first_at_self, first_found, found_at_none}
use Rattle.commonlaws.specs.Readers.{pages_of}
use Rattle.commonlaws.proofs.SharedLaws.{first_page, first_none}
use Rattle.commonlaws.proofs.NextLaws.{next_first, alone_first}
use Rattle.readlaws.proofs.FormLaws.{form_length}
use Rattle.walklaws.specs.Cursors.{spent_mark}
use Rattle.querylaws.specs.declared.Turn.{Turn}
use Rattle.querylaws.specs.Lists.{span, number_of, part_at, form_in, shape_in, pages_at, bound_in, ListAt}
use Rattle.querylaws.specs.Queries.{cursor_in, new_query, reader_at, lead_in, others_in, next_for, Apt, Turned}
use Rattle.querylaws.specs.Batches.{bit_behind}
use Rattle.querylaws.specs.Ranks.{rank_of, OnElement}
use Rattle.querylaws.proofs.ListLaws.{list_rises, list_length}
use Rattle.querylaws.proofs.RunLaws.{lead_ready, others_ready}
use Rattle.querylaws.proofs.NewLaws.{new_running}
use Rattle.querylaws.proofs.TurnLaws.{turned_none, turned_page}
use Rattle.querylaws.proofs.RankLaws.{turned_ranked}
use Rattle.kinds.specs.Alone.{OpenedAlone}

module _ (xs : List ℕ) (b : ℕ) where
  by_none : (n : ℕ) → first_from b 0 xs ≡ none n → by_bound xs b ≡ 1 ∷ (length xs ∷ [])
  unfolding by_bound numbered
  by_none n e = rw (first_found b xs ∙ found_at_none xs (first_at b xs) (first_none b xs n e), by_bound)

  -- the page that was found is the element of its rank
  by_page : (U : ℕ) → rising 0 U xs ≡ true → (c i j : ℕ) → first_from b 0 xs ≡ page c i → j < length xs
      → get_or xs j 0 ≡ c → by_bound xs b ≡ 2 ∷ (c ∷ (j ∷ []))
  unfolding by_bound numbered
  by_page U r c i j e h g =
      let p = first_page b xs c i e in
      let same : i ≡ j =
      sym (first_at_self 0 U xs r i p.1) ∙ ap (λ (x : ℕ). first_at x xs) (p.2 ∙ sym g) ∙ first_at_self 0 U xs r j h in
      rw (e, by_bound, same)

-- what is known where the turn found a page
pub record Paged (s r : List ℕ) (b : ℕ) (u : Turn) : Type 0 where
  pub on_element : OnElement s r 0 u.mark u.bit
  pub marked : 0 < u.mark
  pub narrow : rank_of s r 0 u.mark < 2 ^ 32
  pub answer : by_bound (decode s) b ≡ 2 ∷ ((u.mark - 1) ∷ (rank_of s r 0 u.mark ∷ []))

module _ (s r : List ℕ) (o : OpenedAlone s r) (b : ℕ) (u : Turn) (n : Turned s r 1 new_query b u) where
  apt : Apt s r 1 new_query b
  apt = (new_running s r 1 o.lists b).apt

  abbrev list : ListAt s r 0
  list = o.lists.each 0 o.lists.some

  rises : rising 0 (bound_in r) (decode s) ≡ true
  rises = rw o.pages at (list_rises s r 0 list)

  found_first : (next_for s r 1 new_query b).found ≡ first_from b 0 (decode s)
  unfolding span reader_at pages_of
  found_first =
      next_first (bound_in r) (lead_in s r new_query) (others_in s r 1 new_query) b (lead_ready s r 1 new_query b apt)
      (others_ready s r 1 new_query b apt)
      ∙ alone_first (bound_in r) (pages_at s r 0) (list_rises s r 0 list) b
      ∙ ap (first_from b 0) o.pages

  -- the list's row tells how many pages there are
  all_pages : length (decode s) ≡ number_of r 0 7
  unfolding pages_at shape_in
  all_pages =
      ap length (sym o.pages) ∙ form_length (form_in s r 0) (part_at s r 0) (shape_in r 0) list.opened

  pub bound_none : u.mark ≡ spent_mark → by_bound (decode s) b ≡ 1 ∷ (number_of r 0 7 ∷ [])
  bound_none m =
      let z = turned_none s r 1 new_query b apt u n m in
      rw (← all_pages) (by_none (decode s) b z.0 (sym found_first ∙ z.1))

  pub bound_paged : (u.mark ≡ spent_mark → ⊥) → u.bit ≡ bit_behind 1 u.q u.mark → Paged s r b u
  unfolding bit_behind
  bound_paged m t =
      let p = turned_page s r 1 new_query b apt u n m in
      let d : p.0 ≡ u.mark - 1 = omega (arith, p.2) in
      let on = turned_ranked s r 1 new_query b apt u n m 0 o.lists.some in
      let e : (cursor_in u.q 0).mark ≡ u.mark = omega (arith, on.marked, p.2) in
      let within = rw e at on.within in record {
        on_element = rw (t, ne_eqb u.mark spent_mark m) (rw e at on.on_element);
        marked = omega (arith, p.2);
        narrow = omega (arith, within, list_length s r 0 list);
        answer =
            by_page (decode s) b (bound_in r) rises (u.mark - 1) p.1 (rank_of s r 0 u.mark)
            (rw (← d) (sym found_first ∙ p.3)) (rw o.pages at within) (rw o.pages at (rw e at on.there));
      }

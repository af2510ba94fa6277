-- What the mark of a next common page says: none, or the page of the rule's answer; that fewer of the lead are left;
-- and that one query and mark alone come of it.
use mathlib.Core.Bool.{true}
use mathlib.Core.Path.{◌≡◌, refl, sym, ap, subst, ◌∙◌}
use mathlib.Core.List.{List}
use Prim.Native.Nat.{ℕ, ◌+◌, ◌<◌}
use native.Mathlib.Omega.{arith}
use Rattle.rules.specs.List.{rising}
use Rattle.rules.specs.Seek.{Found, none, page}
use Rattle.seeklaws.proofs.FirstLaws.{rising_below}
use Rattle.commonlaws.specs.Readers.{left_in}
use Rattle.walklaws.specs.Cursors.{spent_mark}
use Rattle.querylaws.specs.declared.Query.{Query}
use Rattle.querylaws.specs.declared.Turn.{Turn}
use Rattle.querylaws.specs.Lists.{bound_in}
use Rattle.querylaws.specs.Queries.{lead_in, mark_found, next_for, Apt, Turned}
use Rattle.querylaws.proofs.ListLaws.{list_within}
use Rattle.querylaws.proofs.RunLaws.{came}

module _ (s sh : List ℕ) (k : ℕ) (q : Query) (b : ℕ) (a : Apt s sh k q b) where
  -- a page that was found is below the bound of the lists
  found_below : (c j : ℕ) → (next_for s sh k q b).found ≡ page c j → c < bound_in sh
  found_below c j e =
      let n = came s sh k q b a in
      let on = (rw e at n.ends).on_page_lem.0 in
      let rises : rising 0 (bound_in sh) (next_for s sh k q b).lead.pages ≡ true =
      rw n.carried.lead_pages_lem (a.ready 0 a.lists.some).rises in
      rw on.there at (rising_below 0 (bound_in sh) (next_for s sh k q b).lead.pages rises on.rank on.within)

  module _ (t : Turn) (u : Turned s sh k q b t) where
    pub turned_none : t.mark ≡ spent_mark → (n : ℕ) × ((next_for s sh k q b).found ≡ none n)
    turned_none h = go (next_for s sh k q b).found refl
      where
        go : (f : Found) → (next_for s sh k q b).found ≡ f → (n : ℕ) × ((next_for s sh k q b).found ≡ none n)
        go (none n) e = (n, e)
        go (page c j) e =
            let m : t.mark ≡ c + 1 = u.mark ∙ ap mark_found e ∙ (unfold mark_found in refl) in
            absurd (omega (arith, found_below c j e, list_within s sh 0 (a.lists.each 0 a.lists.some)))

    -- else it is page + 1
    pub turned_page : (t.mark ≡ spent_mark → ⊥)
        → (c : ℕ) × (j : ℕ) × (t.mark ≡ c + 1) × ((next_for s sh k q b).found ≡ page c j)
    turned_page h = go (next_for s sh k q b).found refl
      where
        go : (f : Found) → (next_for s sh k q b).found ≡ f
            → (c : ℕ) × (j : ℕ) × (t.mark ≡ c + 1) × ((next_for s sh k q b).found ≡ page c j)
        go (none n) e = absurd (h (u.mark ∙ ap mark_found e ∙ (unfold mark_found in refl)))
        go (page c j) e = (c, j, u.mark ∙ ap mark_found e ∙ (unfold mark_found in refl), e)

    pub turned_fewer : (t.mark ≡ spent_mark → ⊥) → left_in t.mark (lead_in s sh t.q) < left_in b (lead_in s sh q)
    turned_fewer h =
        let p = turned_page h in
        let hit = rw p.3 at (came s sh k q b a).ends in
        rw (u.lead, (came s sh k q b a).carried.lead_pages_lem, p.2) hit.fewer

    -- and above the bound
    pub turned_later : (t.mark ≡ spent_mark → ⊥) → (b < t.mark) × (t.mark < spent_mark)
    turned_later h =
        let p = turned_page h in
        let hit = rw p.3 at (came s sh k q b a).ends in (
          omega (arith, p.2, hit.later),
          omega (
            arith,
            p.2,
            found_below p.0 p.1 p.3,
            list_within s sh 0 (a.lists.each 0 a.lists.some),
          ),
        )

module _ (s sh : List ℕ) (k : ℕ) (q : Query) (b : ℕ) where
  pub turned_unique : (t t' : Turn) → Turned s sh k q b t → Turned s sh k q b t'
      → (t.q ≡ t'.q) × (t.mark ≡ t'.mark)
  turned_unique t t' u u' = (u.query ∙ sym u'.query, u.mark ∙ sym u'.mark)

  -- query and mark are all that it speaks of
  pub turned_like : (t t' : Turn) → t.q ≡ t'.q → t.mark ≡ t'.mark → Turned s sh k q b t → Turned s sh k q b t'
  turned_like t t' e m u =
      subst (λ (r : Query). Turned s sh k q b (record { q = r; mark = t'.mark; bit = t'.bit; found = t'.found })) e
      (subst (λ (n : ℕ). Turned s sh k q b (record { q = t.q; mark = n; bit = t'.bit; found = t'.found })) m
      (record {
        query = u.query;
        eight = u.eight;
        mark = u.mark;
        lead = u.lead;
        others = u.others;
        seeks = u.seeks;
        looks = u.looks;
        narrow = u.narrow;
        running = u.running;
      }))

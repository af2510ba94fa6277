-- Laws of the next common page: by plain reading, with its seeks and looks;
-- and that the step rule lists the next page and goes on behind it.
use mathlib.Core.Bool.{true}
use mathlib.Core.Path.{◌≡◌, refl, sym, ap, ◌∙◌}
use mathlib.Core.List.{List, [], ◌∷◌}
use Prim.Native.Nat.{ℕ, zero, suc, ◌+◌}
use native.Mathlib.Nat.{add_assoc}
use native.Mathlib.Decide.{dec_lt}
use native.Mathlib.Omega.{arith}
use lib.ListN.{length, get_or}
use Rattle.rules.specs.List.{rising}
use Rattle.rules.specs.Seek.{Found, none, page}
use Rattle.rules.specs.Common.{Reader, Tally, counted, nothing}
use Rattle.rules.specs.Plain.{first_from}
use Rattle.seeklaws.specs.Cursors.{first_at, found_at}
use Rattle.seeklaws.proofs.FirstLaws.{first_at_self, first_at_le, first_found, found_at_none}
use Rattle.commonlaws.specs.Readers.{pages_of, Ready, AllReady}
use Rattle.commonlaws.specs.Next.{Turn, over, again, hit, Turned, turned, Next, ending, plus}
use Rattle.commonlaws.specs.Next.{next_by, next_common, rounds_to, rounds_by, onward, first_shared}
use Rattle.commonlaws.specs.Outcomes.{Carried, Over, Again, Hit, Goes, Ends, Came}
use Rattle.commonlaws.proofs.SharedLaws.{from_first, from_none, shared_alone}
use Rattle.commonlaws.proofs.TurnLaws.{To, turned_carried, turned_goes}
use Rattle.commonlaws.proofs.FuelLaws.{next_turn, rounds_turn, by_turns}

pub length_pages : (rs : List Reader) → length (pages_of rs) ≡ length rs
unfolding pages_of
length_pages [] = refl
length_pages (r ∷ rs) = ap suc (length_pages rs)

-- ---- readers of the same lists

module _ (U : ℕ) (lead : Reader) (others : List Reader) (lead' : Reader) (others' : List Reader)
    (lp : lead'.pages ≡ lead.pages) (ps : pages_of others' ≡ pages_of others) where
  pub same_length : length others' ≡ length others
  same_length = sym (length_pages others') ∙ ap length ps ∙ length_pages others

  over_same : (b s : ℕ) → Over b lead' others' s → Over b lead others s
  over_same b s o = record { shared = rw (lp, ps) at o.shared; few = rw (lp, same_length) at o.few }

  hit_same : (b c i : ℕ) (l : Reader) (os : List Reader) (s : ℕ) → Hit U b c i lead' others' l os s
      → Hit U b c i lead others l os s
  hit_same b c i l os s h = record {
    first = rw lp at h.first;
    shared = rw (lp, ps) at h.shared;
    few = rw (lp, same_length) at h.few;
    fewer = rw lp at h.fewer;
    later = h.later;
    on_page_lem = h.on_page_lem;
    ready = h.ready;
    all_ready = h.all_ready;
  }

carried_then : (U : ℕ) (lead : Reader) (others : List Reader) (lead' : Reader) (others' : List Reader) (lead'' : Reader)
    (others'' : List Reader) (s l s' l' : ℕ)
    → Carried U lead others lead' others' s l → Carried U lead' others' lead'' others'' s' l'
    → Carried U lead others lead'' others'' (s + s') (l + l')
carried_then U lead others lead' others' lead'' others'' s l s' l' c d = record {
  lead_pages_lem = d.lead_pages_lem ∙ c.lead_pages_lem;
  pages = d.pages ∙ c.pages;
  words = d.words ∙ c.words;
  paid = omega (arith, c.paid, d.paid);
  reach = omega (arith, c.words, d.reach);
}

-- ---- the next page

module _ (U b d : ℕ) (lead : Reader) (others : List Reader) (t : Turned) (n : Next)
    (w : Carried U lead others t.lead t.others t.seeks t.looks)
    (a : Again U b d lead others t.lead t.others t.seeks) where
  ends_after : (f : Found) → Ends U d t.lead t.others n f → Ends U b lead others (plus t.seeks t.looks n) f
  unfolding plus
  ends_after (none m) o =
      let p = over_same U lead others t.lead t.others w.lead_pages_lem w.pages d n.seeks o.1 in
      (o.0 ∙ rw w.lead_pages_lem, record { shared = a.shared ∙ p.shared; few = omega (arith, p.few, a.few) })
  ends_after (page c i) h =
      let p = hit_same U lead others t.lead t.others w.lead_pages_lem w.pages d c i n.lead n.others
      n.seeks h in
      record {
        first = p.first;
        shared = a.shared ∙ p.shared;
        few = omega (arith, p.few, a.few);
        fewer = omega (arith, p.fewer, a.fewer);
        later = omega (arith, p.later, a.later);
        on_page_lem = p.on_page_lem;
        ready = p.ready;
        all_ready = p.all_ready;
      }

  came_after : Came U d t.lead t.others n → Came U b lead others (plus t.seeks t.looks n)
  unfolding plus
  came_after m = record {
    carried = carried_then U lead others t.lead t.others n.lead n.others t.seeks t.looks n.seeks
        n.looks w m.carried;
    ends = ends_after n.found m.ends;
  }

module _ (U : ℕ) where
  next_step : (lead : Reader) (others : List Reader) (b : ℕ) → Ready U b lead → AllReady U b others
      → let t = turned U lead others b in
      ((d : ℕ) → To t.turn d → Came U d t.lead t.others (next_common U t.lead t.others d))
      → Came U b lead others (next_common U lead others b)
  next_step lead others b k a ih =
      rw (next_turn U lead others b k a) (go t.turn (turned_goes U b lead others k a) ih)
    where
      t : Turned
      t = turned U lead others b

      w : Carried U lead others t.lead t.others t.seeks t.looks
      w = turned_carried U b lead others k a

      go : (e : Turn) → Goes U b lead others t e
          → ((d : ℕ) → To e d → Came U d t.lead t.others (next_common U t.lead t.others d))
          → Came U b lead others (next_by (next_common U t.lead t.others) t e)
      go over o ih = unfold next_by ending in record { carried = w; ends = (ap length w.lead_pages_lem, o) }
      go (hit c i) o ih = unfold next_by ending in record { carried = w; ends = o }
      go (again d) o ih = unfold next_by in
          came_after U b d lead others t (next_common U t.lead t.others d) w o (ih d refl)

  -- what the next page says, its readers, seeks and looks
  pub next_came : (lead : Reader) (others : List Reader) (b : ℕ) → Ready U b lead → AllReady U b others
      → Came U b lead others (next_common U lead others b)
  next_came = by_turns U (λ lead others b. Came U b lead others (next_common U lead others b)) next_step

  -- the next page is the first at least b that all lists hold, by plain reading, with its rank in the lead
  pub next_first : (lead : Reader) (others : List Reader) (b : ℕ) → Ready U b lead → AllReady U b others
      → (next_common U lead others b).found ≡ first_shared b (pages_of others) lead.pages
  next_first lead others b k a = go (next_common U lead others b).found (next_came lead others b k a).ends
    where
      go : (f : Found) → Ends U b lead others (next_common U lead others b) f
          → f ≡ first_shared b (pages_of others) lead.pages
      go (none m) o = unfold first_shared in rw (o.1.shared, first_shared, o.0)
      go (page c i) h = unfold first_shared in rw (h.shared, first_shared) (sym h.first)

  -- one list alone: the next page is its first element at least b
  pub alone_first : (xs : List ℕ) → rising 0 U xs ≡ true → (b : ℕ) → first_shared b [] xs ≡ first_from b 0 xs
  unfolding first_shared
  alone_first xs r b =
      elim (dec_lt (first_at b xs) (length xs)) [
        | yes h ↦
            let c : ℕ = get_or xs (first_at b xs) 0 in
            rw (shared_alone, from_first 0 U xs r b h, first_shared)
            (first_found c xs ∙ ap (found_at xs) (first_at_self 0 U xs r (first_at b xs) h) ∙ sym (first_found b xs))
        | no h ↦
            let e : first_at b xs ≡ length xs = omega (arith, first_at_le b xs) in
            rw (shared_alone, from_none b xs e, first_shared) (sym (first_found b xs ∙ found_at_none xs (first_at b xs) e))
      ]

  -- ---- the rule lists the next page and goes on behind it

  counted_twice : (s l s' l' : ℕ) (ps : List ℕ) (t : Tally)
      → counted s l [] (counted s' l' ps t) ≡ counted (s + s') (l + l') ps t
  unfolding counted
  counted_twice s l s' l' ps t = rw (← add_assoc s s' t.seeks, ← add_assoc l l' t.looks)

  onward_after : (t : Turned) (n : Next) (r : ℕ)
      → counted t.seeks t.looks [] (onward U n (suc r)) ≡ onward U (plus t.seeks t.looks n) (suc r)
  onward_after t n r = go n.found refl
    where
      go : (f : Found) → n.found ≡ f
          → counted t.seeks t.looks [] (onward U n (suc r)) ≡ onward U (plus t.seeks t.looks n) (suc r)
      go (none m) e = unfold onward plus in
          rw (e, onward) (counted_twice t.seeks t.looks n.seeks n.looks [] nothing)
      go (page c i) e =
          unfold onward plus in rw (e, onward) (counted_twice t.seeks t.looks n.seeks n.looks (c ∷ [])
          (rounds_to U n.lead n.others (c + 1) r))

  -- the rule is the next page and what is behind it
  abbrev Onward : Reader → List Reader → ℕ → Type 0
  Onward lead others b = (r : ℕ) → rounds_to U lead others b r ≡ onward U (next_common U lead others b) r

  rounds_step : (lead : Reader) (others : List Reader) (b : ℕ) → Ready U b lead → AllReady U b others
      → let t = turned U lead others b in
      ((d : ℕ) → To t.turn d → Onward t.lead t.others d) → Onward lead others b
  rounds_step lead others b k a ih r =
      rounds_turn U lead others b k a r
      ∙ go t.turn ih r
      ∙ ap (λ (n : Next). onward U n r) (sym (next_turn U lead others b k a))
    where
      t : Turned
      t = turned U lead others b

      go : (e : Turn) → ((d : ℕ) → To e d → Onward t.lead t.others d) → (r : ℕ)
          → rounds_by (rounds_to U t.lead t.others) t e r
          ≡ onward U (next_by (next_common U t.lead t.others) t e) r
      go e ih zero = unfold rounds_by onward in refl
      go over ih (suc r) = unfold rounds_by next_by ending onward in refl
      go (hit c i) ih (suc r) = unfold rounds_by next_by ending onward in refl
      go (again d) ih (suc r) = unfold rounds_by next_by in
          ap (counted t.seeks t.looks []) (ih d refl (suc r))
          ∙ onward_after t (next_common U t.lead t.others d) r

  pub rounds_next : (lead : Reader) (others : List Reader) (b : ℕ) → Ready U b lead → AllReady U b others
      → Onward lead others b
  rounds_next = by_turns U Onward rounds_step

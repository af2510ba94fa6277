-- Laws of one turn: a seek of the lead and a round of the others. What its end says of the pages that all share, the
-- readers after it, its seeks and looks.
use mathlib.Core.Path.{◌≡◌, refl, sym, ap, ◌∙◌}
use mathlib.Core.List.{List, [], ◌∷◌}
use Prim.Native.Nat.{ℕ, ◌+◌, ◌≤◌, ◌<◌}
use native.Mathlib.Nat.{mul-le-mul_left}
use native.Mathlib.Omega.{arith}
use lib.ListN.{length}
use Rattle.rules.specs.Seek.{Found, none, page, Sought}
use Rattle.rules.specs.Common.{seek_by, moved_by, Reader, Ended, agreed, exhausted, larger, Round, stopped, agree}
use Rattle.rules.specs.Plain.{first_from, at_least, shared_by}
use Rattle.seeklaws.specs.Cursors.{first_at}
use Rattle.seeklaws.proofs.FirstLaws.{first_at_self, first_found, found_at_page}
use Rattle.seeklaws.proofs.SeekLaws.{seek_placed}
use Rattle.seeklaws.proofs.LookLaws.{reached_le, looks_step}
use Rattle.commonlaws.specs.Readers.{pages_of, Ready, AllReady, moved, reached_by, words_of, left_in}
use Rattle.commonlaws.specs.Next.{Turn, over, again, hit, Turned, turn_of, behind_lead, turned}
use Rattle.commonlaws.specs.Outcomes.{Carried, Goes}
use Rattle.commonlaws.proofs.SharedLaws.{first_none, from_first, from_none, from_mono}
use Rattle.commonlaws.proofs.SharedLaws.{shared_yes, shared_no, shared_skip, shared_none}
use Rattle.commonlaws.proofs.AgreeLaws.{all_ready_more, moved_ready, seek_plain, sought_first, sought_on}
use Rattle.commonlaws.proofs.AgreeLaws.{sought_least, Kept, stopped_kept, agree_kept, Says, agree_says, all_hold}

-- the bound to which a turn goes on
abbrev pub To : Turn → ℕ → Type 0
To over d = ⊥
To (again e) d = e ≡ d
To (hit c i) d = c + 1 ≡ d

pub record Later (U b d : ℕ) (lead : Reader) (t : Turned) : Type 0 where
  pub fewer : left_in d t.lead < left_in b lead
  pub ready : Ready U d t.lead
  pub all_ready : AllReady U d t.others

goes_later : (U b d : ℕ) (lead : Reader) (others : List Reader) (t : Turned) (e : Turn) → t.lead.pages ≡ lead.pages
    → Goes U b lead others t e → To e d → Later U b d lead t
goes_later U b d lead others t over p g h = absurd h
goes_later U b d lead others t (again e) p g h = rw (← h) (record {
  fewer = rw p g.fewer;
  ready = g.ready;
  all_ready = g.all_ready;
})
goes_later U b d lead others t (hit c i) p g h = rw (← h) (record {
  fewer = rw p g.fewer;
  ready = g.ready (c + 1) (omega arith);
  all_ready = g.all_ready (c + 1) (omega arith);
})

pub reached_words : (U d : ℕ) (rs : List Reader) → AllReady U d rs → reached_by U rs ≤ words_of U rs
unfolding reached_by words_of
reached_words U d [] k = omega arith
reached_words U d (r ∷ rs) k =
    omega (arith, reached_le r.form U r.pages k.0.rises r.cursor k.0.placed, reached_words U d rs k.1)

module _ (U b : ℕ) (lead : Reader) (others : List Reader) where
  abbrev pub this : Sought
  this = seek_by U lead b

  pub turned_none : (m : ℕ) → this.found ≡ none m
      → turned U lead others b ≡ behind_lead lead this over (stopped exhausted others)
  unfolding turned behind_lead moved_by
  turned_none m e = rw (e, turned)

  pub turned_page : (c i : ℕ) → this.found ≡ page c i
      → turned U lead others b ≡ behind_lead lead this (turn_of c i (agree U c others).ended) (agree U c others)
  unfolding turned behind_lead moved_by
  turned_page c i e = rw (e, turned)

  module _ (k : Ready U b lead) where
    behind_carried : (c : ℕ) (n : Round) → Kept U c others n
        → Carried U lead others (moved U b lead) n.readers (1 + n.seeks) (this.looks + n.looks)
    unfolding moved reached_by words_of seek_by moved_by
    behind_carried c n m = record {
      lead_pages_lem = refl;
      pages = m.pages;
      words = omega (arith, m.words);
      paid = omega (arith, m.looks, looks_step lead.form U lead.pages k.rises lead.cursor b k.placed);
      reach = omega (
        arith,
        reached_le lead.form U lead.pages k.rises this.cursor
            (seek_placed lead.form U lead.pages k.rises lead.cursor b k.placed),
        m.words,
        reached_words U c n.readers (m.ready c (omega arith)),
      );
    }

    none_goes : (m : ℕ) → this.found ≡ none m
        → Goes U b lead others (behind_lead lead this over (stopped exhausted others)) over
    unfolding behind_lead stopped shared_by
    none_goes m e = record {
      shared = ap (shared_by (pages_of others))
          (from_none b lead.pages (first_none b lead.pages m (sym (seek_plain U b lead k) ∙ e)));
      few = omega arith;
    }

    module _ (c i : ℕ) (e : this.found ≡ page c i) (n : Round) (m : Kept U c others n) where
      -- the lead's pages from b on begin with c
      begins : at_least b lead.pages ≡ c ∷ at_least (c + 1) lead.pages
      begins =
          let f = sought_first U b lead k c i e in
          rw (f.0, f.2) at (from_first 0 U lead.pages k.rises b (rw f.0 f.1))

      page_goes : (d : Ended) → Says c (pages_of others) n.readers d
          → Goes U b lead others (behind_lead lead this (turn_of c i d) n) (turn_of c i d)
      unfolding behind_lead turn_of
      page_goes exhausted s = record {
        shared = rw begins (shared_no (pages_of others) c (at_least (c + 1) lead.pages) (s c (omega arith))
            ∙ shared_none (pages_of others) lead.pages (c + 1) (λ x h. s x (omega arith)));
        few = rw begins (omega (arith, m.seeks));
      }
      page_goes (larger d) s = record {
        shared = rw begins (shared_no (pages_of others) c (at_least (c + 1) lead.pages) (s.1 c (omega arith) s.0)
            ∙ shared_skip (pages_of others) lead.pages (c + 1) d (omega (arith, s.0))
            (λ x h l. s.1 x (omega arith) l));
        few = rw begins (omega (
          arith,
          m.seeks,
          mul-le-mul_left (1 + length others) (from_mono (c + 1) d lead.pages (omega (arith, s.0))),
        ));
        fewer = rw begins (omega (arith, from_mono (c + 1) d lead.pages (omega (arith, s.0))));
        later = omega (arith, sought_least U b lead k c i e, s.0);
        ready = unfold moved in moved_ready U b lead k d (omega (arith, sought_least U b lead k c i e, s.0));
        all_ready = m.ready d (omega (arith, s.0));
      }
      page_goes agreed s = record {
        first = own;
        shared = rw begins
            (shared_yes (pages_of others) c (at_least (c + 1) lead.pages)
            (rw m.pages at (all_hold c n.readers s)));
        few = rw begins (omega (arith, m.seeks));
        fewer = rw begins (omega arith);
        later = sought_least U b lead k c i e;
        on_page_lem = (unfold moved in sought_on U b lead k c i e, s);
        ready = λ d h. unfold moved in moved_ready U b lead k d (omega (arith, sought_least U b lead k c i e));
        all_ready = λ d h. m.ready d h;
      }
        where
          own : first_from c 0 lead.pages ≡ page c i
          own =
              let f = sought_first U b lead k c i e in
              let q : first_at c lead.pages ≡ i = rw f.2 at (first_at_self 0 U lead.pages k.rises i f.1) in
              first_found c lead.pages ∙ rw q (found_at_page lead.pages i f.1 ∙ rw f.2)

    module _ (a : AllReady U b others) where
      found_kept : (c i : ℕ) → this.found ≡ page c i → AllReady U c others
      found_kept c i e = all_ready_more U b c others a (sought_least U b lead k c i e)

      pub turned_carried : let t = turned U lead others b in
          Carried U lead others t.lead t.others t.seeks t.looks
      turned_carried = go this.found refl
        where
          go : (f : Found) → this.found ≡ f
              → let t = turned U lead others b in
              Carried U lead others t.lead t.others t.seeks t.looks
          go (none m) e = rw (turned_none m e) (unfold behind_lead moved in
              behind_carried b (stopped exhausted others) (stopped_kept U b others exhausted a))
          go (page c i) e = rw (turned_page c i e) (unfold behind_lead moved in
              behind_carried c (agree U c others) (agree_kept U c others (found_kept c i e)))

      pub turned_goes : Goes U b lead others (turned U lead others b) (turned U lead others b).turn
      turned_goes = go this.found refl
        where
          go : (f : Found) → this.found ≡ f
              → Goes U b lead others (turned U lead others b) (turned U lead others b).turn
          go (none m) e = rw (turned_none m e) (unfold behind_lead in none_goes m e)
          go (page c i) e =
              let o = found_kept c i e in
              rw (turned_page c i e) (unfold behind_lead in page_goes c i e (agree U c others) (agree_kept U c others o)
              (agree U c others).ended (agree_says U c others o))

      pub turned_later : (d : ℕ) → To (turned U lead others b).turn d → Later U b d lead (turned U lead others b)
      turned_later d h = goes_later U b d lead others (turned U lead others b) (turned U lead others b).turn
          turned_carried.lead_pages_lem turned_goes h

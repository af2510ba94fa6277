-- Laws of a run of postings that may follow: what its lists ask of the block, what they leave in it, and the call's
-- answer.
use mathlib.Core.Bool.{true, false}
use mathlib.Core.Path.{◌≡◌, refl, sym, ◌∙◌}
use mathlib.Core.List.{List, [], ◌∷◌}
use Prim.Native.Nat.{ℕ, ◌+◌, ◌-◌, ◌≤◌, ◌<◌}
use native.Mathlib.Omega.{arith}
use borrow.Author.Tests.{leb-true}
use lib.Dec.{leb}
use lib.ListN.{length, get_or, replicate}
use Rattle.rules.specs.Verdict.{Accepted, Room, Lists}
use Rattle.rules.specs.declared.Stream.{Stream}
use Rattle.rules.specs.Limits.{limit}
use Rattle.rules.specs.List.{rising, Form, form_of}
use Rattle.rules.specs.Write.{laid}
use Rattle.rules.specs.Term.{Word, total, sums, next, raised, placed, positive, in_order_by_page, valid_word}
use Rattle.rules.specs.InPlace.{from, added, form_added}
use Rattle.rules.specs.Stream.{over, live, stream_form, second_at, third_at, follows, added_word, advanced, goes, size_of}
use Rattle.rules.specs.Stream.{spoilt, put_postings}
use Rattle.listlaws.proofs.RisingLaws.{and_parts, rising_parts}
use Rattle.termlaws.proofs.WordLaws.{valid_agreeing}
use Rattle.wordlaws.proofs.LayLaws.{positive_at}
use Rattle.addlaws.specs.Adding.{SlotAs, Slot}
use Rattle.addlaws.proofs.MoreLaws.{placed_rise, list_one, total_one, sums_one, placed_one}
use Rattle.sessionlaws.specs.declared.Layout.{Layout}
use Rattle.sessionlaws.specs.Layout.{Housed}
use Rattle.sessionlaws.specs.Session.{Live}
use Rattle.sessionlaws.specs.Follow.{Following, Laying, stepped}
use Rattle.sessionlaws.proofs.LiveLaws.{live_parts, going_dead, going_short, going_on}
use Rattle.sessionlaws.proofs.LayoutLaws.{counts_tell, layout_tells, second_is, third_is, housed}
use Rattle.sessionlaws.proofs.LayoutLaws.{house_pages, house_counts}

pub following : (s : Stream) (t : Word) → follows s t ≡ true → Following s t
unfolding follows
following s t e =
    let end : ℕ = next s.base (placed s.base t.counts t.positions) in
    let a = and_parts (valid_word s.n t) _ e in
    let b = and_parts (rising s.page s.n t.pages) _ a.1 in
    let c = and_parts (leb (s.laid + length t.pages) s.pages) _ b.1 in
    let d = and_parts (leb (s.filled + length t.positions) s.positions) (leb end s.u) c.1 in
    record {
      agreeing = valid_agreeing s.n t a.0;
      seam = b.0;
      pages = leb-true (s.laid + length t.pages) s.pages c.0;
      positions = leb-true (s.filled + length t.positions) s.positions d.0;
      ends = leb-true end s.u d.1;
    }

-- ---- the lists

module _ {g : Layout} {s : Stream} {t : Word} {room : List ℕ} (l : Laying g s t room) where
  lives : Live s
  lives = live_parts s l.goes_on

  pub run_follows : Following s t
  run_follows = following s t l.may

  pub laying_house : Housed s.version g room
  laying_house =
      housed s.version s.n s.pages s.positions s.u lives.accepts g l.layout room l.fits

  tells : (g.pages.u ≡ s.n) × (g.pages.n ≡ s.pages) × (g.positions.n ≡ s.positions) × (g.positions.u ≡ s.u)
  tells = layout_tells s.version s.n s.pages s.positions s.u lives.announced g l.layout

  counts_told : (g.counts.u ≡ s.positions) × (g.counts.n ≡ s.pages)
  counts_told = counts_tell s.version s.n s.pages s.positions s.u lives.announced g l.layout

  -- the session behind them
  pub advanced_told : (b : ℕ) → b ≡ next s.base (placed s.base t.counts t.positions)
      → stepped s t.pages t.positions b ≡ advanced s t
  unfolding stepped advanced
  advanced_told b e = rw (lives.marked, e)

  pub ask_advance : (rising 0 s.n t.pages ≡ true) × (s.n ≤ limit) × (s.u ≤ limit)
  ask_advance = (run_follows.agreeing.rises, lives.announced.within, lives.announced.reach)

  pub ask_pages : (s.laid + length t.pages ≤ g.pages.n) × (rising 0 g.pages.u t.pages ≡ true)
  ask_pages = (omega (arith, run_follows.pages, tells), rw tells.0 run_follows.agreeing.rises)

  -- the pages' form
  abbrev form : Form
  form = form_of s.version g.pages.u g.pages.n

  pub ask_counts : (s.laid + length t.counts ≤ g.counts.n) × (positive t.counts ≡ true)
      × (s.filled + total t.counts ≤ g.counts.u)
  ask_counts =
      let a = run_follows.agreeing in (
        omega (arith, run_follows.pages, a.lengths, counts_told),
        a.counted,
        omega (arith, run_follows.positions, a.summed, counts_told),
      )

  pub ask_places : (s.filled + length t.positions ≤ g.positions.n) × (total t.counts ≡ length t.positions)
      × (positive t.counts ≡ true) × (in_order_by_page t.counts t.positions ≡ true)
      × (next s.base (placed s.base t.counts t.positions) ≤ g.positions.u)
  ask_places =
      let a = run_follows.agreeing in (
        omega (arith, run_follows.positions, tells),
        a.summed,
        a.counted,
        a.ordered,
        omega (arith, run_follows.ends, tells),
      )

  pub added_told : from g.third
      (added g.positions.u g.positions.n s.filled (placed s.base t.counts t.positions))
      (from g.second (added g.counts.u g.counts.n s.laid (sums s.filled t.counts))
      (from 5 (form_added form g.pages.u g.pages.n s.laid t.pages) room))
      ≡ added_word s t room
  unfolding added_word stream_form second_at third_at
  added_told = rw (
    tells.0,
    tells.1,
    tells.2,
    tells.3,
    counts_told.0,
    counts_told.1,
    second_is s.version s.n s.pages s.positions s.u lives.announced g l.layout,
    third_is s.version s.n s.pages s.positions s.u lives.announced g l.layout,
  )

-- ---- the lists of one page

module _ {g : Layout} {s : Stream} {t : Word} {room : List ℕ} (l : Laying g s t room)
    (one : length t.pages ≡ 1) where
  counts_one : length t.counts ≡ 1
  counts_one = sym (run_follows l).agreeing.lengths ∙ one

  -- its count, and the sum with it
  pub one_count : (length t.counts ≡ 1) × (0 < get_or t.counts 0 0)
      × (s.filled + get_or t.counts 0 0 ≤ g.counts.u) × (g.counts.u ≤ limit)
  one_count =
      let a = ask_counts l in (
        counts_one,
        positive_at t.counts a.1 0 (omega (arith, counts_one)),
        omega (arith, total_one t.counts counts_one, a.2),
        omega (arith, counts_told l, (lives l).announced.positions, (lives l).announced.reach),
      )

  -- the block has a place for the page, and for the sum less 1
  pub page_slot : (r : List ℕ) → length r ≡ length room - 5
      → SlotAs (form l) g.pages.lower g.pages.upper g.pages.w s.laid (get_or t.pages 0 0) r g.pages
  page_slot r h = record {
    fitting = house_pages (laying_house l) r h;
    lower_is = refl;
    upper_is = refl;
    width_is = refl;
    number = omega (arith, (ask_pages l).0);
    below = (rising_parts 0 g.pages.u (get_or t.pages 0 0) []
        (rw (list_one t.pages one) at (ask_pages l).1)).1;
  }

  pub sum_slot : (r : List ℕ) → length r ≡ length room - g.second
      → Slot g.counts.lower g.counts.upper g.counts.w s.laid (s.filled + get_or t.counts 0 0 - 1) r
      g.counts
  sum_slot r h = record {
    fitting = house_counts (laying_house l) r h;
    lower_is = refl;
    upper_is = refl;
    width_is = refl;
    number = omega (arith, (ask_counts l).0, counts_one);
    below = omega (arith, one_count);
  }

  placed_are : placed s.base t.counts t.positions ≡ raised s.base t.positions
  placed_are = placed_one s.base t.counts t.positions counts_one (ask_places l).1

  pub ask_raised : (s.filled + length t.positions ≤ g.positions.n)
      × (rising 0 g.positions.u (raised s.base t.positions) ≡ true)
  ask_raised =
      let a = ask_places l in
      (a.0, rw placed_are at (placed_rise s.base g.positions.u t.counts t.positions a.3 a.4))

  pub one_told : from g.third
      (added g.positions.u g.positions.n s.filled (raised s.base t.positions))
      (from g.second (added g.counts.u g.counts.n s.laid ((s.filled + get_or t.counts 0 0 - 1) ∷ []))
      (from 5 (form_added (form l) g.pages.u g.pages.n s.laid (get_or t.pages 0 0 ∷ [])) room))
      ≡ added_word s t room
  one_told = rw (
    sym placed_are,
    sym (sums_one s.filled t.counts counts_one),
    sym (list_one t.pages one),
  ) (added_told l)

-- ---- the call

module _ (s : Stream) (t : Word) (room : List ℕ) where
  pub put_dead : live s ≡ false → put_postings s t room ≡ goes Lists over room
  unfolding put_postings
  put_dead e = going_dead s room _ e

  module _ (goes_on : live s ≡ true) where
    pub put_short : length room < size_of s → put_postings s t room ≡ goes Room s room
    unfolding put_postings
    put_short h = going_short s room _ goes_on h

    module _ (long : size_of s ≤ length room) where
      pub put_spoilt : follows s t ≡ false → put_postings s t room ≡ goes Lists over (laid (replicate (size_of s) 0) room)
      unfolding put_postings spoilt
      put_spoilt e = going_on s room _ goes_on long ∙ rw e

      pub put_laid : follows s t ≡ true → put_postings s t room ≡ goes Accepted (advanced s t) (added_word s t room)
      unfolding put_postings
      put_laid e = going_on s room _ goes_on long ∙ rw e

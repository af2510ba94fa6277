-- Laws of seeking the others in turn for a page: what its end says, the readers after it, its seeks and looks.
use mathlib.Core.Bool.{true, false, and-false}
use mathlib.Core.Path.{◌≡◌, refl, sym, ap, ◌∙◌}
use mathlib.Core.List.{List, [], ◌∷◌}
use Prim.Native.Nat.{ℕ, ◌+◌, ◌≤◌, ◌<◌}
use native.Mathlib.Decide.{dec_lt}
use native.Mathlib.Omega.{arith}
use borrow.Author.Tests.{lt-ltb, le-ltb}
use lib.ListN.{length, get_or}
use Rattle.rules.specs.Seek.{Found, none, page, Sought}
use Rattle.rules.specs.Common.{Reader, Ended, agreed, exhausted, larger, Round, seek_by, moved_by, before, stopped, agree}
use Rattle.rules.specs.Plain.{first_from, member, in_all}
use Rattle.seeklaws.specs.Cursors.{first_at}
use Rattle.seeklaws.proofs.FirstLaws.{first_at_at}
use Rattle.seeklaws.proofs.SeekLaws.{seek_first, seek_placed, seek_behind, behind_more, cursor_at_on}
use Rattle.seeklaws.proofs.LookLaws.{looks_step}
use Rattle.commonlaws.specs.Readers.{pages_of, Ready, AllReady, OnPage, AllOnPage, reached_by, words_of, moved}
use Rattle.commonlaws.proofs.SharedLaws.{member_at, first_page, first_none, member_gap}

-- ---- one reader

module _ (U b : ℕ) (r : Reader) (k : Ready U b r) where
  pub moved_ready : (d : ℕ) → b ≤ d → Ready U d (moved U b r)
  unfolding moved seek_by moved_by
  moved_ready d h = record {
    rises = k.rises;
    placed = seek_placed r.form U r.pages k.rises r.cursor b k.placed;
    behind = seek_behind r.form U r.pages k.rises r.cursor b d k.placed k.behind h;
  }

  pub seek_plain : (seek_by U r b).found ≡ first_from b 0 r.pages
  unfolding seek_by
  seek_plain = (seek_first r.form U r.pages k.rises r.cursor b k.placed k.behind).found

  -- a seek that finds page d: no page of the list is between b and d
  module _ (d i : ℕ) (e : (seek_by U r b).found ≡ page d i) where
    pub sought_first : (first_at b r.pages ≡ i) × (i < length r.pages) × (get_or r.pages i 0 ≡ d)
    sought_first = first_page b r.pages d i (sym seek_plain ∙ e)

    pub sought_on : OnPage d (moved U b r)
    unfolding moved seek_by moved_by
    sought_on =
        let f = sought_first in
        record {
          rank = i;
          stands = (seek_first r.form U r.pages k.rises r.cursor b k.placed k.behind).cursor
              ∙ rw f.0 (cursor_at_on r.pages i f.1);
          within = f.1;
          there = f.2;
        }

    pub sought_least : b ≤ d
    sought_least =
        let f = sought_first in
        omega (arith, rw (f.0, f.2) at (first_at_at b r.pages (rw f.0 f.1)))

    pub sought_gap : (x : ℕ) → b ≤ x → x < d → member x r.pages ≡ false
    sought_gap x h l =
        let f = sought_first in
        member_gap U r.pages k.rises b x h (λ g. rw (f.0, f.2) l)

  pub sought_none : (m : ℕ) → (seek_by U r b).found ≡ none m → (x : ℕ) → b ≤ x
      → member x r.pages ≡ false
  sought_none m e x h =
      let f = first_none b r.pages m (sym seek_plain ∙ e) in
      member_gap U r.pages k.rises b x h (λ g. absurd (omega arith))

pub ready_more : (U b d : ℕ) (r : Reader) → Ready U b r → b ≤ d → Ready U d r
ready_more U b d r k h = record {
  rises = k.rises;
  placed = k.placed;
  behind = behind_more U r.pages k.rises r.cursor b d k.behind h;
}

pub all_ready_more : (U b d : ℕ) (rs : List Reader) → AllReady U b rs → b ≤ d → AllReady U d rs
all_ready_more U b d [] k h = tt
all_ready_more U b d (r ∷ rs) k h = (ready_more U b d r k.0 h, all_ready_more U b d rs k.1 h)

-- ---- the readers, seeks and looks of a round for page c

pub record Kept (U c : ℕ) (rs : List Reader) (r : Round) : Type 0 where
  pub pages : pages_of r.readers ≡ pages_of rs
  pub words : words_of U r.readers ≡ words_of U rs
  pub ready : (d : ℕ) → c ≤ d → AllReady U d r.readers
  pub seeks : r.seeks ≤ length rs
  pub looks : r.looks + reached_by U rs ≤ reached_by U r.readers + r.seeks

pub stopped_kept : (U c : ℕ) (rs : List Reader) (e : Ended) → AllReady U c rs → Kept U c rs (stopped e rs)
unfolding stopped
stopped_kept U c rs e k = record {
  pages = refl;
  words = refl;
  ready = λ d h. all_ready_more U c d rs k h;
  seeks = omega arith;
  looks = omega arith;
}

before_kept : (U c : ℕ) (r : Reader) (rs : List Reader) (n : Round) → Ready U c r → Kept U c rs n
    → Kept U c (r ∷ rs) (before r (seek_by U r c) n)
unfolding before pages_of words_of reached_by moved seek_by moved_by
before_kept U c r rs n k m = record {
  pages = ap (λ (l : List (List ℕ)). r.pages ∷ l) m.pages;
  words = omega (arith, m.words);
  ready = λ d h. (moved_ready U c r k d h, m.ready d h);
  seeks = omega (arith, m.seeks);
  looks = omega (arith, m.looks, looks_step r.form U r.pages k.rises r.cursor c k.placed);
}

-- ---- the three ways on from a seek

module _ (U c : ℕ) (r : Reader) (rs : List Reader) where
  abbrev this : Sought
  this = seek_by U r c

  pub agree_none : (m : ℕ) → this.found ≡ none m → agree U c (r ∷ rs) ≡ before r this (stopped exhausted rs)
  unfolding agree before moved_by
  agree_none m e = rw (e, agree)

  pub agree_larger : (d i : ℕ) → this.found ≡ page d i → c < d
      → agree U c (r ∷ rs) ≡ before r this (stopped (larger d) rs)
  unfolding agree before moved_by
  agree_larger d i e h = rw (e, agree, lt-ltb c d h)

  pub agree_same : (d i : ℕ) → this.found ≡ page d i → d ≤ c
      → agree U c (r ∷ rs) ≡ before r this (agree U c rs)
  unfolding agree before moved_by
  agree_same d i e h = rw (e, agree, le-ltb c d h)

-- the readers, seeks and looks of a round of the others
pub agree_kept : (U c : ℕ) (rs : List Reader) → AllReady U c rs → Kept U c rs (agree U c rs)
unfolding agree
agree_kept U c [] k = stopped_kept U c [] agreed tt
agree_kept U c (r ∷ rs) k = go (agree_kept U c rs k.1) (this U c r rs).found refl
  where
    stops : (e : Ended) → Kept U c (r ∷ rs) (before r (this U c r rs) (stopped e rs))
    stops e = before_kept U c r rs (stopped e rs) k.0 (stopped_kept U c rs e k.1)

    go : Kept U c rs (agree U c rs) → (f : Found) → (this U c r rs).found ≡ f → Kept U c (r ∷ rs) (agree U c (r ∷ rs))
    go m (none n) e = rw (agree_none U c r rs n e) (stops exhausted)
    go m (page d i) e =
        elim (dec_lt c d) [
          | yes h ↦ rw (agree_larger U c r rs d i e h) (stops (larger d))
          | no h ↦ rw (agree_same U c r rs d i e (omega arith)) (before_kept U c r rs (agree U c rs) k.0 m)
        ]

-- ---- what the end of a round says: all are on page c, or how far there is no page in all lists

abbrev pub Says : ℕ → List (List ℕ) → List Reader → Ended → Type 0
Says c ls rs agreed = AllOnPage c rs
Says c ls rs exhausted = (x : ℕ) → c ≤ x → in_all x ls ≡ false
Says c ls rs (larger d) = (c < d) × ((x : ℕ) → c ≤ x → x < d → in_all x ls ≡ false)

first_lacks : (x : ℕ) (l : List ℕ) (ls : List (List ℕ)) → member x l ≡ false → in_all x (l ∷ ls) ≡ false
unfolding in_all
first_lacks x l ls e = rw e

rest_lack : (x : ℕ) (l : List ℕ) (ls : List (List ℕ)) → in_all x ls ≡ false → in_all x (l ∷ ls) ≡ false
unfolding in_all
rest_lack x l ls e = rw e (and-false (member x l))

-- the first reader is on page c, and the rest says so much
says_before : (U c : ℕ) (r : Reader) (ls : List (List ℕ)) (n : Round) → OnPage c (moved U c r)
    → Says c ls n.readers n.ended
    → Says c (r.pages ∷ ls) (before r (seek_by U r c) n).readers n.ended
unfolding before moved moved_by
says_before U c r ls n o s = go n.ended s
  where
    go : (e : Ended) → Says c ls n.readers e
        → Says c (r.pages ∷ ls) (before r (seek_by U r c) n).readers e
    go agreed s = (o, s)
    go exhausted s = λ x h. rest_lack x r.pages ls (s x h)
    go (larger d) s = (s.0, λ x h l. rest_lack x r.pages ls (s.1 x h l))

pub agree_says : (U c : ℕ) (rs : List Reader) → AllReady U c rs
    → Says c (pages_of rs) (agree U c rs).readers (agree U c rs).ended
unfolding agree before pages_of stopped
agree_says U c [] k = tt
agree_says U c (r ∷ rs) k = go (agree_says U c rs k.1) (this U c r rs).found refl
  where
    go : Says c (pages_of rs) (agree U c rs).readers (agree U c rs).ended → (f : Found) → (this U c r rs).found ≡ f
        → Says c (r.pages ∷ pages_of rs) (agree U c (r ∷ rs)).readers (agree U c (r ∷ rs)).ended
    go m (none n) e =
        rw (agree_none U c r rs n e) (λ x h. first_lacks x r.pages (pages_of rs) (sought_none U c r k.0 n e x h))
    go m (page d i) e =
        elim (dec_lt c d) [
          | yes h ↦ rw (agree_larger U c r rs d i e h)
              (h, λ x l g. first_lacks x r.pages (pages_of rs) (sought_gap U c r k.0 d i e x l g))
          | no h ↦
              let q : d ≡ c = omega (arith, sought_least U c r k.0 d i e) in
              rw (agree_same U c r rs d i e (omega arith))
              (says_before U c r (pages_of rs) (agree U c rs) (rw q at (sought_on U c r k.0 d i e)) m)
        ]

-- readers that are on page c all hold it
pub all_hold : (c : ℕ) (rs : List Reader) → AllOnPage c rs → in_all c (pages_of rs) ≡ true
unfolding in_all pages_of
all_hold c [] o = refl
all_hold c (r ∷ rs) o =
    let m : member c r.pages ≡ true = rw o.0.there at (member_at r.pages o.0.rank o.0.within) in
    rw m (all_hold c rs o.1)

-- The pages that are listed: those of a screen, by the promises of opening the lists and of the loop of seeks; and
-- where they stand in the numbers that they are listed into.
use mathlib.Core.Path.{◌≡◌, sym, ap, ◌∙◌}
use mathlib.Core.List.{List, [], ◌∷◌, ◌++◌, append_assoc}
use Prim.Native.Nat.{ℕ, ◌-◌, ◌≤◌, ◌<◌}
use native.Mathlib.Omega.{arith}
use borrow.Rule.Slice.PartMut.{mid_of, post_of, put_mid, mid_len}
use lib.ListN.{length, get_or, take, drop, length-take}
use lib.Seq.{get_or-take, take-append_seam}
use Rattle.rules.specs.Verdict.{Accepted}
use Rattle.rules.specs.Write.{laid}
use Rattle.rules.specs.Index.{index_v, index_n, index_refusal}
use Rattle.rules.specs.Common.{Tally, common_from}
use Rattle.rules.specs.Plain.{at_least, common_pages}
use Rattle.rules.specs.Questions.{lists_in}
use Rattle.rules.specs.Screen.{screen_pages, screen_counts}
use Rattle.cardlaws.proofs.PassedLaws.{accepted_passed}
use Rattle.seeklaws.proofs.FirstLaws.{rising_below}
use Rattle.commonlaws.proofs.SharedLaws.{from_rises}
use Rattle.commonlaws.proofs.CommonLaws.{common_rises, from_listed}
use Rattle.querylaws.specs.declared.Turn.{Turn}
use Rattle.querylaws.specs.Queries.{new_query, seeks_of, looks_of}
use Rattle.querylaws.specs.Batches.{Batched}
use Rattle.querylaws.proofs.ListingLaws.{batched_rule}
use Rattle.wordlists.specs.Opened.{OpenedPages}
use Rattle.wordlists.proofs.OpenLaws.{opened_some}
use Rattle.panel.specs.Listing.{Lists}

module _ (s ts sh : List ℕ) (o : OpenedPages s ts sh) (b : ℕ) (room : List ℕ) (r : Turn) (room' : List ℕ)
    (x : Batched s sh (length ts) new_query b room r room') where
  abbrev ls : List (List ℕ)
  ls = lists_in s ts

  tally_is : common_from (index_v s) (index_n s) ls b (length room)
      ≡ record { seeks = seeks_of r.q; looks = looks_of r.q; listed = x.pages }
  tally_is = sym (o.rule b (length room)) ∙ batched_rule s sh (length ts) o.lists b room r room' x

  pages_are : x.pages ≡ screen_pages b (length room) ls
  unfolding screen_pages
  pages_are =
      sym (ap (λ (t : Tally). t.listed) tally_is)
      ∙ from_listed (index_v s) (index_n s) ls (opened_some s ts sh o) o.rise b (length room)

  pub room_is : room' ≡ laid (screen_pages b (length room) ls) room
  room_is = x.laid_out ∙ ap (λ (ps : List ℕ). laid ps room) pages_are

  pub found_is : r.found ≡ length (screen_pages b (length room) ls)
  found_is = x.found ∙ ap length pages_are

  pub counts_are : seeks_of r.q ∷ looks_of r.q ∷ [] ≡ screen_counts (index_v s) (index_n s) b (length room) ls
  unfolding screen_counts
  counts_are = rw tally_is

-- ---- listed into the first n of some numbers

-- pages at the front of a part, which is at the front of a list
front_is : (ps mid rest : List ℕ) → take (length ps) (laid ps mid ++ rest) ≡ ps
unfolding laid
front_is ps mid rest =
    rw (append_assoc ps (drop (length ps) mid) rest) (take-append_seam ps (drop (length ps) mid ++ rest))

-- a page of a screen is below N
page_below : (s ts sh : List ℕ) → OpenedPages s ts sh → (b n i : ℕ) → i < length (screen_pages b n (lists_in s ts))
    → get_or (screen_pages b n (lists_in s ts)) i 0 < index_n s
unfolding screen_pages
page_below s ts sh o b n i h =
    let all : List ℕ = at_least b (common_pages (lists_in s ts)) in
    rw (get_or-take n all i 0 (omega (arith, h, length-take n all)))
    (rising_below b (index_n s) all (from_rises 0 (index_n s) (common_pages (lists_in s ts))
    (common_rises (index_v s) (index_n s) (lists_in s ts) (opened_some s ts sh o) o.rise) b) i
    (omega (arith, h, length-take n all)))

module _ (s ts sh : List ℕ) (a : index_refusal s ≡ Accepted) (o : OpenedPages s ts sh) (b n : ℕ) (some : 0 < n)
    (list : List ℕ) (within : n ≤ length list) (r : Turn) (room' : List ℕ)
    (x : Batched s sh (length ts) new_query b (mid_of 0 (n - 0) list) r room') where
  abbrev after : List ℕ
  after = put_mid 0 (n - 0) list room'

  size_is : length (mid_of 0 (n - 0) list) ≡ n
  size_is = mid_len 0 n list within ∙ omega arith

  abbrev ps : List ℕ
  ps = screen_pages b n (lists_in s ts)

  few : length ps ≤ n
  few = unfold screen_pages in omega (arith, length-take n (at_least b (common_pages (lists_in s ts))))

  taken : take r.found after ≡ ps
  taken =
      let e = rw size_is at (room_is s ts sh o b (mid_of 0 (n - 0) list) r room' x) in
      let f = rw size_is at (found_is s ts sh o b (mid_of 0 (n - 0) list) r room' x) in
      rw (e, f) (front_is ps (mid_of 0 (n - 0) list) (post_of 0 (n - 0) list))

  pub lists_screen : (found seeks looks : ℕ)
      → (found ≡ r.found) × (seeks ≡ seeks_of r.q) × (looks ≡ looks_of r.q)
      → Lists s b n ts after found seeks looks
  lists_screen found seeks looks e =
      let f = rw size_is at (found_is s ts sh o b (mid_of 0 (n - 0) list) r room' x) in record {
        pages = rw e.0 taken;
        counts = rw (e.1, e.2)
            (rw size_is at (counts_are s ts sh o b (mid_of 0 (n - 0) list) r room' x));
        few = omega (arith, e.0, f, few);
        low = λ g.
            let l : n - 1 < length ps = omega (arith, g, e.0, f, some) in
            let y = page_below s ts sh o b n (n - 1) l in
            let z : get_or after (n - 1) 0 ≡ get_or ps (n - 1) 0 =
            sym (get_or-take r.found after (n - 1) 0 (omega (arith, l, f)))
            ∙ ap (λ (xs : List ℕ). get_or xs (n - 1) 0) taken in
            omega (arith, z, y, (accepted_passed s a).within);
      }

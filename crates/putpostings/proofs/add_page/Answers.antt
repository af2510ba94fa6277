-- `add_page` lends each list its part of the room, which comes back with the page, its sum and its positions laid.
use mathlib.Core.Path.{refl, ap, ◌∙◌}
use mathlib.Core.List.{List, [], ◌∷◌}
use Prim.Native.Nat.{ℕ, ◌+◌, ◌-◌}
use native.Mathlib.Omega.{arith}
use borrow.Rule.Slice.PartMut.{mid_of, put_mid}
use lib.ListN.{length, get_or}
use Rattle.rules.specs.Term.{raised}
use Rattle.rules.specs.List.{form_of}
use Rattle.rules.specs.InPlace.{from, added, form_added}
use Rattle.wordlaws.proofs.PieceLaws.{part_long}
use Rattle.addlaws.specs.Adding.{Slots}
use Rattle.addlaws.proofs.FromLaws.{part_from}
use Rattle.sessionlaws.proofs.LayoutLaws.{house_places, house_positions}
use Rattle.sessionlaws.proofs.PutLaws.{laying_house, one_count, page_slot, sum_slot, ask_raised, one_told}
use Rattle.putpostings.proofs.add_page.Lts
use Rattle.putpostings.proofs.add_page.Reads
use Rattle.putpostings.proofs.add_page.Tie
use Rattle.putpostings.proofs.add_page.Goals as goal

abbrev After-shared_slice_known-4-1 : Type 0
After-shared_slice_known-4-1 = Lts.After-shared_slice_known4 Tie.the-claims Reads.Pre Reads.Post

abbrev Start : Type 0
Start = Lts.Start Tie.the-claims Reads.Pre Reads.Post

abbrev After-slice_known-2-1 : Type 0
After-slice_known-2-1 = Lts.After-slice_known2 Tie.the-claims Reads.Pre Reads.Post

abbrev After-slice_known-3-1 : Type 0
After-slice_known-3-1 = Lts.After-slice_known3 Tie.the-claims Reads.Pre Reads.Post

-- the start, seen from before the first list and from behind each of the others
abbrev from_start : After-shared_slice_known-4-1 → Start
from_start c = c.before.before.before.before.before.before.before

abbrev from-pages : After-slice_known-2-1 → Start
from-pages c = from_start c.before.before.before.before

abbrev from-counts : After-slice_known-3-1 → Start
from-counts c = from-pages c.before.before.before.before

-- the room behind the page and its sum
abbrev paged : After-slice_known-2-1 → List ℕ
paged c =
    let r = c.args.room.now in
    put_mid 5 (length r - 5) r c.add_page.new.block

abbrev counted : After-slice_known-3-1 → List ℕ
counted c =
    let r = paged c.before.before.before.before in
    let u = c.args.g.second in
    put_mid u (length r - u) r c.add_one.new.block

pub slice_bounds-add_page-count : goal.slice_bounds-add_page-count
slice_bounds-add_page-count c =
    let p = c.requires.0 in
    omega (arith, house_places (laying_house p), p.fits)

pub add_page-requires : goal.add_page-requires
add_page-requires c =
    let s = c in
    let g = s.args.g in (
      s.requires.1,
      record {
        form = form_of s.args.s.version g.pages.u g.pages.n;
        shape = g.pages;
        slot = page_slot s.requires.0 s.requires.1 _ (part_long 5 s.args.room.now);
      },
    )

pub slice_bounds-add_one-count : goal.slice_bounds-add_one-count
slice_bounds-add_one-count c =
    let p = c.requires.0 in
    omega (arith, house_places (laying_house p), p.fits)

pub add_one-requires : goal.add_one-requires
add_one-requires c =
    let b = c in
    let s = b in
    record {
      shape = s.args.g.counts;
      slot = sum_slot s.requires.0 s.requires.1 _ (omega (arith, part_long s.args.g.second (paged b.before.before)));
    }

pub slice_bounds-add_above-count : goal.slice_bounds-add_above-count
slice_bounds-add_above-count c =
    let p = c.requires.0 in
    omega (arith, house_places (laying_house p), p.fits)

-- the positions have their places behind the room's own, seen from behind the sum
slots : (c : After-slice_known-3-1)
    → let s = c in
    let g = s.args.g in
    let p = g.positions in
    let r : List ℕ = counted c in
    Slots p.lower p.upper p.w s.args.s.filled s.args.s.base s.args.positions.now
    (mid_of g.third (length r - g.third) r) p
slots c =
    let s = c in
    let a = ask_raised s.requires.0 s.requires.1 in
    record {
      asked = record {
        fitting =
            house_positions (laying_house s.requires.0) _ (omega (arith, part_long s.args.g.third (counted c)));
        few = a.0;
        rises = a.1;
      };
      lower_is = refl;
      upper_is = refl;
      width_is = refl;
    }

pub add_above-requires : goal.add_above-requires
add_above-requires c = record { shape = c.args.g.positions; slots = slots c.before.before.before }

pub shape_of-room : goal.shape_of-room
shape_of-room c =
    let b = c in
    let d = b in
    c.room-3-1.given.1 ∙ b.room-2-1.given.1 ∙ d.room-1.given.1

pub returns : goal.returns
returns c =
    let b = c in
    let d = b in
    let s = b in
    let g = s.args.g in
    let x = s.args.s in
    let (p, one) = s.requires in
    let m = part_long g.second (paged d.before.before.before.before.before.before.before.before.before.before) in
    let page = get_or s.args.pages.now 0 0 in
    let sum = x.filled + get_or s.args.counts.now 0 0 - 1 in
    let f = form_of x.version g.pages.u g.pages.n in
    let P : List ℕ → List ℕ = form_added f g.pages.u g.pages.n x.laid (page ∷ []) in
    let C : List ℕ → List ℕ = added g.counts.u g.counts.n x.laid (sum ∷ []) in
    let Q : List ℕ → List ℕ = added g.positions.u g.positions.n x.filled
    (raised x.base s.args.positions.now) in
    part_from g.third Q (counted b.before.before.before.before.before.before) c.add_above.new.block
    (c.add_above.ensures g.positions (slots b.before.before.before.before.before.before))
    ∙ ap (from g.third Q)
    (part_from g.second C (paged d.before.before.before.before.before.before.before.before.before.before) b.add_one.new.block
    (b.add_one.ensures g.counts (sum_slot p one _ (omega (arith, m))))
    ∙ ap (from g.second C)
    (part_from 5 P s.args.room.now d.add_page.new.block
    (d.add_page.ensures f g.pages (page_slot p one _ (part_long 5 s.args.room.now)))))
    ∙ one_told p one

pub bounds-counts-0 : goal.bounds-counts-0
bounds-counts-0 c = omega (arith, one_count c.requires.0 c.requires.1)

pub overflow_cast-sum : goal.overflow_cast-sum
overflow_cast-sum c = omega (arith, c.shared_slice_known-4-1.given 0)

pub overflow_add-sum : goal.overflow_add-sum
overflow_add-sum c = omega (arith, one_count c.requires.0 c.requires.1)

pub overflow_sub-sum : goal.overflow_sub-sum
overflow_sub-sum c = omega (arith, one_count c.requires.0 c.requires.1)

pub slice_bounds-add_page-start : goal.slice_bounds-add_page-start
slice_bounds-add_page-start c = slice_bounds-add_page-count c

pub slice_bounds-add_one-start : goal.slice_bounds-add_one-start
slice_bounds-add_one-start c = slice_bounds-add_one-count c

pub slice_bounds-add_above-start : goal.slice_bounds-add_above-start
slice_bounds-add_above-start c = slice_bounds-add_above-count c

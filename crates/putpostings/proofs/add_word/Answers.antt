-- `add_word` lends each list its part of the room, which comes back with its elements laid.
use mathlib.Core.Path.{ap, ◌∙◌}
use mathlib.Core.List.{List}
use Prim.Native.Nat.{ℕ, ◌-◌}
use native.Mathlib.Omega.{arith}
use borrow.Rule.Slice.PartMut.{put_mid}
use lib.ListN.{length}
use Rattle.rules.specs.List.{Form, form_of}
use Rattle.rules.specs.Term.{lent_word, sums, placed}
use Rattle.rules.specs.InPlace.{from, added, form_added}
use Rattle.sessionlaws.specs.Follow.{Laying}
use Rattle.wordlaws.proofs.PieceLaws.{part_long}
use Rattle.addlaws.proofs.FromLaws.{part_from}
use Rattle.sessionlaws.proofs.LayoutLaws.{house_places, house_shapes, house_pages, house_counts}
use Rattle.sessionlaws.proofs.LayoutLaws.{house_positions}
use Rattle.sessionlaws.proofs.PutLaws.{laying_house, ask_pages, ask_counts, ask_places, added_told}
use Rattle.putpostings.proofs.add_word.Lts
use Rattle.putpostings.proofs.add_word.Reads
use Rattle.putpostings.proofs.add_word.Tie
use Rattle.putpostings.proofs.add_word.Goals as goal

abbrev After-layout_of-g : Type 0
After-layout_of-g = Lts.After-layout_of Tie.the-claims Reads.Pre Reads.Post

abbrev Start : Type 0
Start = Lts.Start Tie.the-claims Reads.Pre Reads.Post

abbrev After-struct_known-2-1 : Type 0
After-struct_known-2-1 = Lts.After-struct_known2 Tie.the-claims Reads.Pre Reads.Post

abbrev After-slice_known-2-1 : Type 0
After-slice_known-2-1 = Lts.After-slice_known2 Tie.the-claims Reads.Pre Reads.Post

abbrev After-slice_known-3-1 : Type 0
After-slice_known-3-1 = Lts.After-slice_known3 Tie.the-claims Reads.Pre Reads.Post

-- the start, seen from where the layout is known
abbrev start : After-layout_of-g → Start
start c = c.before.before.before.before.before

laying : (c : After-layout_of-g)
    → let a = c.args in
    Laying c.layout_of-g.result a.s (lent_word a.pages.now a.counts.now a.positions.now) a.room.now
laying c =
    let p = c.requires in
    record {
      layout = c.layout_of-g.ensures;
      goes_on = p.goes_on;
      may = p.may;
      fits = omega (arith, ap (λ h. h.size) c.layout_of-g.ensures, p.fits);
    }

-- that place, seen from before the first list and from behind each of the others
abbrev from_first : After-struct_known-2-1 → After-layout_of-g
from_first c = c.before.before

abbrev from-pages : After-slice_known-2-1 → After-layout_of-g
from-pages c = c.before.before.before.before.before.before.before

abbrev from-counts : After-slice_known-3-1 → After-layout_of-g
from-counts c = from-pages c.before.before.before.before.before

-- the room behind the pages and the counts
abbrev paged : After-slice_known-2-1 → List ℕ
paged c =
    let r = c.args.room.now in
    put_mid 5 (length r - 5) r c.add_pages.new.block

abbrev counted : After-slice_known-3-1 → List ℕ
counted c =
    let r = paged c.before.before.before.before.before in
    let u = c.layout_of-g.result.second in
    put_mid u (length r - u) r c.add_sums.new.block

pub slice_bounds-add_pages-count : goal.slice_bounds-add_pages-count
slice_bounds-add_pages-count c =
    let p = laying c.before.before.before in
    omega (arith, house_places (laying_house p), p.fits)

-- the pages' form
abbrev form : After-layout_of-g → Form
form c =
    let g = c.layout_of-g.result in
    form_of c.args.s.version g.pages.u g.pages.n

pub add_pages-requires : goal.add_pages-requires
add_pages-requires c =
    let k = from_first c.before.before.before in
    let p = laying k in
    let a = ask_pages p in
    record {
      form = form k;
      fitting = house_pages (laying_house p) _ (part_long 5 k.args.room.now);
      few = a.0;
      rises = a.1;
    }

pub slice_bounds-add_sums-count : goal.slice_bounds-add_sums-count
slice_bounds-add_sums-count c =
    let p = laying (from-pages c.before) in
    omega (arith, house_places (laying_house p), p.fits)

pub add_sums-requires : goal.add_sums-requires
add_sums-requires c =
    let b = c in
    let k = from-pages b.before.before.before in
    let p = laying k in
    let a = ask_counts p in (
      house_counts (laying_house p) _ (omega (arith, part_long k.layout_of-g.result.second (paged b.before.before.before))),
      a.0,
      a.1,
      a.2,
    )

pub slice_bounds-add_places-count : goal.slice_bounds-add_places-count
slice_bounds-add_places-count c =
    let p = laying (from-counts c.before) in
    omega (arith, house_places (laying_house p), p.fits)

pub add_places-requires : goal.add_places-requires
add_places-requires c =
    let b = c.before.before.before.before in
    let k = from-counts b in
    let p = laying k in
    let a = ask_places p in (
      house_positions (laying_house p) _ (omega (arith, part_long k.layout_of-g.result.third (counted b))),
      a.0,
      a.1,
      a.2,
      a.3,
      a.4,
    )

pub returns : goal.returns
returns c =
    let b = c in
    let d = b in
    let k = b in
    let s = k in
    let g = k.layout_of-g.result in
    let x = s.args.s in
    let ps = s.args.pages.now in
    let cs = s.args.counts.now in
    let qs = s.args.positions.now in
    let P : List ℕ → List ℕ = form_added (form (from-counts k.before.before.before.before.before.before.before))
    g.pages.u g.pages.n x.laid ps in
    let C : List ℕ → List ℕ = added g.counts.u g.counts.n x.laid (sums x.filled cs) in
    let Q : List ℕ → List ℕ = added g.positions.u g.positions.n x.filled (placed x.base cs qs) in
    part_from g.third Q (counted b.before.before.before.before.before.before.before) c.add_places.new.block c.add_places.ensures
    ∙ ap (from g.third Q)
    (part_from g.second C
    (paged d.before.before.before.before.before.before.before.before.before.before.before.before)
    b.add_sums.new.block b.add_sums.ensures
    ∙ ap (from g.second C)
    (part_from 5 P s.args.room.now d.add_pages.new.block
    (d.add_pages.ensures (form (from-counts k.before.before.before.before.before.before.before))
    (house_shapes (laying_house (laying (from-counts k.before.before.before.before.before.before.before)))).0)))
    ∙ added_told (laying (from-counts k.before.before.before.before.before.before.before))

pub layout_of-g-requires : goal.layout_of-g-requires
layout_of-g-requires c = c.requires.goes_on

pub slice_bounds-add_pages-start : goal.slice_bounds-add_pages-start
slice_bounds-add_pages-start c = slice_bounds-add_pages-count c

pub slice_bounds-add_sums-start : goal.slice_bounds-add_sums-start
slice_bounds-add_sums-start c = slice_bounds-add_sums-count c

pub slice_bounds-add_places-start : goal.slice_bounds-add_places-start
slice_bounds-add_places-start c = slice_bounds-add_places-count c

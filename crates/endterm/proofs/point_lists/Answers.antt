-- `point_lists` lends each list its part of the room, which comes back with its pointers.
use mathlib.Core.Path.{ap, ◌∙◌}
use mathlib.Core.List.{List}
use Prim.Native.Nat.{ℕ, ◌-◌}
use native.Mathlib.Omega.{arith}
use borrow.Rule.Slice.PartMut.{put_mid}
use lib.ListN.{length}
use Rattle.rules.specs.List.{form_of}
use Rattle.rules.specs.InPlace.{from, pointed, form_pointed}
use Rattle.wordlaws.proofs.PieceLaws.{part_long}
use Rattle.sessionlaws.proofs.LayoutLaws.{house_places, house_shapes, house_pages, house_counts}
use Rattle.sessionlaws.proofs.LayoutLaws.{house_positions}
use Rattle.addlaws.proofs.FromLaws.{part_from}
use Rattle.endterm.proofs.point_lists.Lts
use Rattle.endterm.proofs.point_lists.Reads
use Rattle.endterm.proofs.point_lists.Tie
use Rattle.endterm.proofs.point_lists.Goals as goal

abbrev After-slice_known-2-1 : Type 0
After-slice_known-2-1 = Lts.After-slice_known2 Tie.the-claims Reads.Pre Reads.Post

abbrev Start : Type 0
Start = Lts.Start Tie.the-claims Reads.Pre Reads.Post

abbrev After-slice_known-3-1 : Type 0
After-slice_known-3-1 = Lts.After-slice_known3 Tie.the-claims Reads.Pre Reads.Post

abbrev After-slice_known-4-1 : Type 0
After-slice_known-4-1 = Lts.After-slice_known4 Tie.the-claims Reads.Pre Reads.Post

-- the start, seen from behind each list
abbrev from-pages : After-slice_known-2-1 → Start
from-pages c = c.before.before.before.before.before.before

abbrev from-counts : After-slice_known-3-1 → Start
from-counts c = from-pages c.before.before.before.before.before

abbrev from-positions : After-slice_known-4-1 → Start
from-positions c = from-counts c.before.before.before.before.before

-- the room behind each
abbrev paged : After-slice_known-2-1 → List ℕ
paged c =
    let r = c.args.room.now in
    put_mid 5 (length r - 5) r c.point_pages.new.block

abbrev counted : After-slice_known-3-1 → List ℕ
counted c =
    let r = paged c.before.before.before.before.before in
    let u = c.args.g.second in
    put_mid u (length r - u) r c.set_pointers.new.block

pub slice_bounds-point_pages-count : goal.slice_bounds-point_pages-count
slice_bounds-point_pages-count c =
    let h = c.requires.house in
    omega (arith, house_places h, h.fits)

pub point_pages-requires : goal.point_pages-requires
point_pages-requires c =
    let s = c in
    let g = s.args.g in
    record {
      form = form_of s.requires.version g.pages.u g.pages.n;
      fitting = house_pages s.requires.house _ (part_long 5 s.args.room.now);
    }

pub slice_bounds-set_pointers-count : goal.slice_bounds-set_pointers-count
slice_bounds-set_pointers-count c =
    let h = c.requires.house in
    omega (arith, house_places h, h.fits)

pub set_pointers-requires : goal.set_pointers-requires
set_pointers-requires c =
    let b = c in
    let s = b in
    house_counts s.requires.house _ (omega (arith, part_long s.args.g.second (paged b.before.before)))

pub slice_bounds-set_pointers-count-2 : goal.slice_bounds-set_pointers-count-2
slice_bounds-set_pointers-count-2 c =
    let h = c.requires.house in
    omega (arith, house_places h, h.fits)

pub set_pointers-requires-2 : goal.set_pointers-requires-2
set_pointers-requires-2 c =
    let b = c in
    let s = b in
    house_positions s.requires.house _ (omega (arith, part_long s.args.g.third (counted b.before.before)))

pub returns : goal.returns
returns c v h =
    let b = c in
    let d = b in
    let p = d.point_pages in
    let q = b.set_pointers in
    let r = c.set_pointers-2 in
    let s = c in
    let g = s.args.g in
    let f = form_of v g.pages.u g.pages.n in
    let P : List ℕ → List ℕ = form_pointed f g.pages.u g.pages.n in
    let C : List ℕ → List ℕ = pointed g.counts.u g.counts.n in
    let Q : List ℕ → List ℕ = pointed g.positions.u g.positions.n in
    part_from g.third Q (counted b.before.before.before.before.before.before) r.new.block r.ensures
    ∙ ap (from g.third Q)
    (part_from g.second C (paged d.before.before.before.before.before.before.before.before.before.before.before)
    q.new.block q.ensures
    ∙ ap (from g.second C)
    (part_from 5 P s.args.room.now p.new.block (p.ensures f (house_shapes h).0)))

pub slice_bounds-point_pages-start : goal.slice_bounds-point_pages-start
slice_bounds-point_pages-start c = slice_bounds-point_pages-count c

pub slice_bounds-set_pointers-start : goal.slice_bounds-set_pointers-start
slice_bounds-set_pointers-start c = slice_bounds-set_pointers-count c

pub slice_bounds-set_pointers-start-2 : goal.slice_bounds-set_pointers-start-2
slice_bounds-set_pointers-start-2 c = slice_bounds-set_pointers-count-2 c

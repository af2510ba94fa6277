-- `put_frames` clears the block, and writes each header into the zeros behind the parts before it.
use mathlib.Core.Path.{◌≡◌, ap, ◌∙◌}
use mathlib.Core.List.{List, ◌++◌}
use Prim.Native.Nat.{ℕ, ◌+◌, ◌-◌}
use native.Mathlib.Omega.{arith}
use borrow.Rule.Slice.PartMut.{put_mid}
use lib.ListN.{length, drop, set}
use Rattle.rules.specs.List.{Form, two_runs, form_of}
use Rattle.sessionlaws.specs.declared.Layout.{Layout}
use Rattle.sessionlaws.specs.Layout.{Housed}
use Rattle.sessionlaws.proofs.LayoutLaws.{house_places, house_shapes}
use Rattle.sessionlaws.proofs.FrameLaws.{zeros, front_of, empty_of, heads, front_long, before_counts, before_positions}
use Rattle.sessionlaws.proofs.FrameLaws.{before_end, step_long, part_head, part_framed, front_laid, frames_are}
use Rattle.beginterm.proofs.put_frames.Lts
use Rattle.beginterm.proofs.put_frames.Reads
use Rattle.beginterm.proofs.put_frames.Tie
use Rattle.beginterm.proofs.put_frames.Goals as goal

abbrev After-slice_known-3-1 : Type 0
After-slice_known-3-1 = Lts.After-slice_known3 Tie.the-claims Reads.Pre Reads.Post

abbrev Start : Type 0
Start = Lts.Start Tie.the-claims Reads.Pre Reads.Post

abbrev After-slice_known-4-1 : Type 0
After-slice_known-4-1 = Lts.After-slice_known4 Tie.the-claims Reads.Pre Reads.Post

abbrev After-slice_known-5-1 : Type 0
After-slice_known-5-1 = Lts.After-slice_known5 Tie.the-claims Reads.Pre Reads.Post

abbrev After-slice_known-6-1 : Type 0
After-slice_known-6-1 = Lts.After-slice_known6 Tie.the-claims Reads.Pre Reads.Post

-- the start, seen from behind each step
abbrev from-head : After-slice_known-3-1 → Start
from-head c = c.before.before.before.before.before.before.before.before.before

abbrev from-pages : After-slice_known-4-1 → Start
from-pages c = from-head c.before.before.before.before.before

abbrev from-counts : After-slice_known-5-1 → Start
from-counts c = from-pages c.before.before.before.before.before

abbrev from-positions : After-slice_known-6-1 → Start
from-positions c = from-counts c.before.before.before.before.before

-- what stands in the room behind each step, before the zeros that are left
abbrev layout : Start → Layout
layout s = s.args.g

abbrev House : Start → ℕ → Type 0
House s v = Housed v (layout s) s.args.room.now

abbrev form : Start → ℕ → Form
form s v = form_of v (layout s).pages.u (layout s).pages.n

abbrev paged : Start → ℕ → List ℕ
paged s v = front_of (layout s) ++ empty_of (form s v) (layout s).pages

abbrev counted : Start → ℕ → List ℕ
counted s v = paged s v ++ empty_of two_runs (layout s).counts

abbrev whole : Start → ℕ → List ℕ
whole s v = counted s v ++ empty_of two_runs (layout s).positions

-- some version gives the layout
house : (s : Start) → House s s.requires.version
house s = s.requires.house

abbrev behind : Start → ℕ → List ℕ
behind s n = zeros n ++ drop (layout s).size s.args.room.now

-- the room itself
abbrev head-room : After-slice_known-3-1 → List ℕ
head-room c = set c.write_u32.new.d 4 1

abbrev pages-room : After-slice_known-4-1 → List ℕ
pages-room c =
    let r = head-room c.before.before.before.before.before in
    put_mid 5 (length r - 5) r c.put_header.new.room

abbrev counts-room : After-slice_known-5-1 → List ℕ
counts-room c =
    let r = pages-room c.before.before.before.before.before in
    let u = c.args.g.second in
    put_mid u (length r - u) r c.put_header-2.new.room

abbrev positions-room : After-slice_known-6-1 → List ℕ
positions-room c =
    let r = counts-room c.before.before.before.before.before in
    let u = c.args.g.third in
    put_mid u (length r - u) r c.put_header-3.new.room

head_is : (c : After-slice_known-3-1)
    → let s = from-head c in
    head-room c ≡ front_of (layout s)
    ++ behind s ((layout s).pages.end + ((layout s).counts.end + (layout s).positions.end))
head_is c =
    let s = from-head c in
    let k = c in
    ap (λ (l : List ℕ). set l 4 1) c.write_u32.ensures
    ∙ front_laid (house s) k.clear.new.room k.clear.ensures

pages_are : (c : After-slice_known-4-1) (v : ℕ) → House (from-pages c) v
    → let s = from-pages c in
    pages-room c ≡ paged s v ++ behind s ((layout s).counts.end + (layout s).positions.end)
pages_are c v h =
    let s = from-pages c in
    let b = c.before.before.before.before.before in
    part_framed (drop (layout s).size s.args.room.now) (front_of (layout s)) (form s v) (layout s).pages
    ((layout s).counts.end + (layout s).positions.end) 5 (head-room b) (heads h).0 (front_long h) (head_is b)
    c.put_header.new.room (c.put_header.ensures (form s v) (house_shapes h).0)

counts_are : (c : After-slice_known-5-1) (v : ℕ) → House (from-counts c) v
    → let s = from-counts c in
    counts-room c ≡ counted s v ++ behind s ((layout s).positions.end + 0)
counts_are c v h =
    let s = from-counts c in
    let b = c.before.before.before.before.before in
    let n : (layout s).counts.end + (layout s).positions.end
    ≡ (layout s).counts.end + ((layout s).positions.end + 0) = omega arith in
    part_framed (drop (layout s).size s.args.room.now) (paged s v) two_runs (layout s).counts
    ((layout s).positions.end + 0) (layout s).second (pages-room b) (heads h).1 (before_counts h)
    (pages_are b v h ∙ ap (λ k. paged s v ++ behind s k) n)
    c.put_header-2.new.room (c.put_header-2.ensures two_runs (house_shapes h).1)

positions_are : (c : After-slice_known-6-1) (v : ℕ) → House (from-positions c) v
    → let s = from-positions c in
    positions-room c ≡ whole s v ++ behind s 0
positions_are c v h =
    let s = from-positions c in
    let b = c.before.before.before.before.before in
    part_framed (drop (layout s).size s.args.room.now) (counted s v) two_runs (layout s).positions 0
    (layout s).third (counts-room b) (heads h).2 (before_positions h) (counts_are b v h)
    c.put_header-3.new.room (c.put_header-3.ensures two_runs (house_shapes h).2)

-- it keeps its length
head_long : (c : After-slice_known-3-1) → length (head-room c) ≡ length c.args.room.now
head_long c =
    let s = from-head c in
    step_long (house s) (front_of (layout s)) ((layout s).pages.end + ((layout s).counts.end + (layout s).positions.end))
    (head-room c) (omega (arith, heads (house s), front_long (house s))) (head_is c)

pages_long : (c : After-slice_known-4-1) → length (pages-room c) ≡ length c.args.room.now
pages_long c =
    let s = from-pages c in
    step_long (house s) (paged s s.requires.version) ((layout s).counts.end + (layout s).positions.end) (pages-room c)
    (omega (arith, house_places (house s), before_counts (house s))) (pages_are c s.requires.version (house s))

counts_long : (c : After-slice_known-5-1) → length (counts-room c) ≡ length c.args.room.now
counts_long c =
    let s = from-counts c in
    step_long (house s) (counted s s.requires.version) ((layout s).positions.end + 0) (counts-room c)
    (omega (arith, house_places (house s), before_positions (house s))) (counts_are c s.requires.version (house s))

pub write_u32-requires : goal.write_u32-requires
write_u32-requires c =
    let s = c.before.before.before.before.before.before in
    omega (arith, heads (house s), (house s).fits)

pub bounds-room-4 : goal.bounds-room-4
bounds-room-4 c = omega (arith, heads (house (from-head c)), (house (from-head c)).fits)

pub slice_bounds-put_header-count : goal.slice_bounds-put_header-count
slice_bounds-put_header-count c = omega (arith, head_long c, heads (house (from-head c)), (house (from-head c)).fits)

pub put_header-requires : goal.put_header-requires
put_header-requires c =
    let b = c in
    let s = from-head b.before.before in
    part_head (drop (layout s).size s.args.room.now) (front_of (layout s)) (form s s.requires.version)
    (layout s).pages
    ((layout s).counts.end + (layout s).positions.end) 5 (head-room b.before.before) (heads (house s)).0 (front_long (house s))
    (head_is b.before.before)

pub slice_bounds-put_header-count-2 : goal.slice_bounds-put_header-count-2
slice_bounds-put_header-count-2 c = omega
    (arith, pages_long c.before, house_places (house (from-pages c.before)), (house (from-pages c.before)).fits)

pub put_header-requires-2 : goal.put_header-requires-2
put_header-requires-2 c =
    let b = c in
    let s = from-pages b.before.before in
    part_head (drop (layout s).size s.args.room.now) (paged s s.requires.version) two_runs
    (layout s).counts
    (layout s).positions.end (layout s).second (pages-room b.before.before) (heads (house s)).1 (before_counts (house s))
    (pages_are b.before.before s.requires.version (house s))

pub slice_bounds-put_header-count-3 : goal.slice_bounds-put_header-count-3
slice_bounds-put_header-count-3 c = omega
    (arith, counts_long c.before, house_places (house (from-counts c.before)), (house (from-counts c.before)).fits)

pub put_header-requires-3 : goal.put_header-requires-3
put_header-requires-3 c =
    let b = c in
    let s = from-counts b.before.before in
    part_head (drop (layout s).size s.args.room.now) (counted s s.requires.version) two_runs
    (layout s).positions 0 (layout s).third
    (counts-room b.before.before) (heads (house s)).2 (before_positions (house s))
    (counts_are b.before.before s.requires.version (house s))

pub shape_of-room : goal.shape_of-room
shape_of-room c =
    let s = c.before.before.before.before.before.before.before.before.before.before.before.before.before.before.before.before.before.before.before.before.before.before.before.before.before in
    step_long (house s) (whole s s.requires.version) 0 (positions-room c.before) (omega (arith, before_end (house s)))
    (positions_are c.before s.requires.version (house s))

pub returns : goal.returns
returns c v h = frames_are h (positions-room c.before) (positions_are c.before v h)

pub slice_bounds-put_header-start : goal.slice_bounds-put_header-start
slice_bounds-put_header-start c = slice_bounds-put_header-count c

pub slice_bounds-put_header-start-2 : goal.slice_bounds-put_header-start-2
slice_bounds-put_header-start-2 c = slice_bounds-put_header-count-2 c

pub slice_bounds-put_header-start-3 : goal.slice_bounds-put_header-start-3
slice_bounds-put_header-start-3 c = slice_bounds-put_header-count-3 c

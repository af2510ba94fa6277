-- `fill_term` lays the block piece by piece, each behind those before it.
use mathlib.Core.Bool.{true}
use mathlib.Core.Path.{◌≡◌, ap, ◌∙◌}
use mathlib.Core.List.{List, ◌++◌}
use Prim.Native.Nat.{ℕ, ◌+◌, ◌-◌, ◌≤◌}
use native.Mathlib.Omega.{arith}
use borrow.Rule.Slice.PartMut.{put_mid}
use lib.ListN.{length, set, length-append}
use Rattle.rules.specs.List.{rising, block, Form, form_of, form_block}
use Rattle.rules.specs.Write.{laid}
use Rattle.rules.specs.Term.{lent_word, sums, placed, term_block}
use Rattle.laws.proofs.RoomLaws.{length_laid}
use Rattle.filllaws.proofs.WriteLaws.{shape_of_lem}
use Rattle.fillmap.specs.Mapping.{SomeForm}
use Rattle.wordlaws.specs.Lists.{Shaped}
use Rattle.wordlaws.proofs.PieceLaws.{part_long, piece_laid, header_laid}
use Rattle.wordlaws.proofs.ShapedLaws.{head_of, head_long, pages_ask, counts_ask, places_ask}
use Rattle.wordlaws.proofs.ShapedLaws.{pages_long, counts_long, block_long, pieces_are}
use Rattle.writeterm.proofs.fill_term.Lts
use Rattle.writeterm.proofs.fill_term.Reads
use Rattle.writeterm.proofs.fill_term.Tie
use Rattle.writeterm.proofs.fill_term.Goals as goal

abbrev After-slice_known-2-1 : Type 0
After-slice_known-2-1 = Lts.After-slice_known2 Tie.the-claims Reads.Pre Reads.Post

abbrev Start : Type 0
Start = Lts.Start Tie.the-claims Reads.Pre Reads.Post

abbrev After-slice_known-3-1 : Type 0
After-slice_known-3-1 = Lts.After-slice_known3 Tie.the-claims Reads.Pre Reads.Post

abbrev After-slice_known-4-1 : Type 0
After-slice_known-4-1 = Lts.After-slice_known4 Tie.the-claims Reads.Pre Reads.Post

abbrev After-slice_known-5-1 : Type 0
After-slice_known-5-1 = Lts.After-slice_known5 Tie.the-claims Reads.Pre Reads.Post

-- the start, seen from behind each piece
abbrev from-head : After-slice_known-2-1 → Start
from-head c = c.before.before.before.before.before.before.before.before.before.before.before

abbrev from-pages : After-slice_known-3-1 → Start
from-pages c = from-head c.before.before.before.before.before

abbrev from-counts : After-slice_known-4-1 → Start
from-counts c = from-pages c.before.before.before.before.before

abbrev from_places : After-slice_known-5-1 → Start
from_places c = from-counts c.before.before.before.before.before

-- the word is writable for an index of version v, as it is for some version
abbrev Told : Start → ℕ → Type 0
Told s v = Shaped v s.args.g s.args.pages.now s.args.counts.now s.args.positions.now

told : (s : Start) → Told s s.requires.0.0
told s = s.requires.0.1

abbrev form : Start → ℕ → Form
form s v = form_of v s.args.g.pages.u (length s.args.pages.now)

-- the pieces, and those that lie before the counts and before the positions
abbrev head : Start → List ℕ
head s = head_of s.args.g

abbrev pages : Start → ℕ → List ℕ
pages s v = form_block (form s v) s.args.g.pages.u s.args.pages.now

abbrev counts : Start → List ℕ
counts s = block s.args.g.counts.u (sums 0 s.args.counts.now)

abbrev places : Start → List ℕ
places s = block s.args.g.positions.u (placed 0 s.args.counts.now s.args.positions.now)

abbrev front : Start → ℕ → List ℕ
front s v = head s ++ pages s v

abbrev middle : Start → ℕ → List ℕ
middle s v = front s v ++ counts s

abbrev whole : Start → ℕ → List ℕ
whole s v =
    term_block v s.args.g.pages.u (lent_word s.args.pages.now s.args.counts.now s.args.positions.now)

-- the room behind the header, the pages, the counts and the positions
abbrev headed : After-slice_known-2-1 → List ℕ
headed c = set c.write_u32.new.d 4 1

abbrev paged : After-slice_known-3-1 → List ℕ
paged c =
    let r = headed c.before.before.before.before.before in
    put_mid 5 (length r - 5) r c.fill_pages.new.room

abbrev counted : After-slice_known-4-1 → List ℕ
counted c =
    let r = paged c.before.before.before.before.before in
    let u = 5 + c.args.g.pages.end in
    put_mid u (length r - u) r c.fill_sums.new.room

abbrev filled : After-slice_known-5-1 → List ℕ
filled c =
    let a = c.args in
    let r = counted c.before.before.before.before.before in
    let u = 5 + a.g.pages.end + a.g.counts.end in
    put_mid u (length r - u) r c.fill_places.new.room

-- it holds the pieces, each behind those before it
head_laid : (c : After-slice_known-2-1) → headed c ≡ laid (head (from-head c)) c.args.room.now
head_laid c =
    let s = c in
    let a = s.args in
    ap (λ l. set l 4 1) c.write_u32.ensures
    ∙ header_laid (5 + a.g.pages.end + a.g.counts.end + a.g.positions.end) 1 a.room.now
    (omega (arith, s.requires.1))

pages_laid : (c : After-slice_known-3-1) (v : ℕ) → Told (from-pages c) v
    → paged c ≡ laid (front (from-pages c) v) c.args.room.now
pages_laid c v t =
    let s = from-pages c in
    let g = s.args.g.pages in
    let b = c.before.before.before.before.before in
    let f = c.fill_pages in
    piece_laid (head s) (pages s v) s.args.room.now 5 (headed b) f.new.room
    (head_long t) (head_laid b)
    (f.ensures (form s v) (shape_of_lem (form s v) g.u (length s.args.pages.now) g t.pages_are))

behind_pages : (s : Start) (v : ℕ) → Told s v → length (front s v) ≡ 5 + s.args.g.pages.end
behind_pages s v t = length-append (head s) (pages s v) ∙ omega (arith, head_long t, pages_long t)

counts_laid : (c : After-slice_known-4-1) (v : ℕ) → Told (from-counts c) v
    → counted c ≡ laid (middle (from-counts c) v) c.args.room.now
counts_laid c v t =
    let s = from-counts c in
    let b = c.before.before.before.before.before in
    piece_laid (front s v) (counts s) s.args.room.now (5 + s.args.g.pages.end) (paged b)
    c.fill_sums.new.room (behind_pages s v t) (pages_laid b v t)
    c.fill_sums.ensures

behind_counts : (s : Start) (v : ℕ) → Told s v
    → length (middle s v) ≡ 5 + s.args.g.pages.end + s.args.g.counts.end
behind_counts s v t = length-append (front s v) (counts s) ∙ omega (arith, behind_pages s v t, counts_long t)

term_laid : (c : After-slice_known-5-1) (v : ℕ) → Told (from_places c) v
    → filled c ≡ laid (whole (from_places c) v) c.args.room.now
term_laid c v t =
    let s = from_places c in
    let a = s.args in
    let b = c.before.before.before.before.before in
    piece_laid (middle s v) (places s) a.room.now (5 + a.g.pages.end + a.g.counts.end) (counted b)
    c.fill_places.new.room (behind_counts s v t) (counts_laid b v t)
    c.fill_places.ensures
    ∙ ap (λ l. laid l a.room.now) (pieces_are t)

-- and keeps its length
headed_long : (c : After-slice_known-2-1) → length (headed c) ≡ length c.args.room.now
headed_long c =
    let s = from-head c in
    ap length (head_laid c)
    ∙ length_laid (head s) s.args.room.now (omega (arith, head_long (told s), s.requires.1))

paged_long : (c : After-slice_known-3-1) → length (paged c) ≡ length c.args.room.now
paged_long c =
    let s = from-pages c in
    let v = s.requires.0.0 in
    ap length (pages_laid c v (told s))
    ∙ length_laid (front s v) s.args.room.now (omega (arith, behind_pages s v (told s), s.requires.1))

counted_long : (c : After-slice_known-4-1) → length (counted c) ≡ length c.args.room.now
counted_long c =
    let s = from-counts c in
    let v = s.requires.0.0 in
    ap length (counts_laid c v (told s))
    ∙ length_laid (middle s v) s.args.room.now (omega (arith, behind_counts s v (told s), s.requires.1))

pub slice_bounds-fill_pages-count : goal.slice_bounds-fill_pages-count
slice_bounds-fill_pages-count c = omega (arith, headed_long c.before, c.requires.1)

pub slice_bounds-fill_pages-start : goal.slice_bounds-fill_pages-start
slice_bounds-fill_pages-start c = omega (arith, headed_long c.before, c.requires.1)

-- what the pages are asked, in a part of the room
pages_fit : (s : Start) (r : List ℕ) → s.args.g.pages.end ≤ length r
    → SomeForm s.args.g.pages r × (length s.args.pages.now ≡ s.args.g.pages.n)
    × (rising 0 s.args.g.pages.u s.args.pages.now ≡ true)
pages_fit s r l = let a = pages_ask (told s) r l in ((form s s.requires.0.0, a.0), a.1, a.2)

pub fill_pages-requires : goal.fill_pages-requires
fill_pages-requires c =
    let s = from-head c.before.before.before in
    pages_fit s _ (omega (arith, part_long 5 (headed c.before.before.before), headed_long c.before.before.before, s.requires.1))

pub slice_bounds-fill_sums-count : goal.slice_bounds-fill_sums-count
slice_bounds-fill_sums-count c = omega (arith, paged_long c.before, c.requires.1)

pub slice_bounds-fill_sums-start : goal.slice_bounds-fill_sums-start
slice_bounds-fill_sums-start c = omega (arith, paged_long c.before, c.requires.1)

pub fill_sums-requires : goal.fill_sums-requires
fill_sums-requires c =
    let s = from-pages c.before.before.before in
    counts_ask (told s) _
    (omega (
      arith,
      part_long (5 + s.args.g.pages.end) (paged c.before.before.before),
      paged_long
          c.before.before.before,
      s.requires.1,
    ))

pub slice_bounds-fill_places-count : goal.slice_bounds-fill_places-count
slice_bounds-fill_places-count c = omega (arith, counted_long c.before, c.requires.1)

pub slice_bounds-fill_places-start : goal.slice_bounds-fill_places-start
slice_bounds-fill_places-start c = omega (arith, counted_long c.before, c.requires.1)

pub fill_places-requires : goal.fill_places-requires
fill_places-requires c =
    let s = from-counts c.before.before.before in
    let u = 5 + s.args.g.pages.end + s.args.g.counts.end in
    places_ask (told s) _
    (omega (arith, part_long u (counted c.before.before.before), counted_long c.before.before.before, s.requires.1))

pub shape_of-room : goal.shape_of-room
shape_of-room c =
    let s = c.before.before.before.before.before.before.before.before.before.before.before.before.before.before.before.before.before.before.before.before.before.before.before.before.before.before.before in
    let v = s.requires.0.0 in
    ap length (term_laid c.before v (told s))
    ∙ length_laid (whole s v) s.args.room.now (omega (arith, block_long (told s), s.requires.1))

pub returns : goal.returns
returns c v t = term_laid c.before v t

-- `layout_of` gives what the session's announcement gives, which is accepted while the session goes on.
use native.Mathlib.Omega.{arith}
use Rattle.sessionlaws.specs.Session.{Live}
use Rattle.sessionlaws.proofs.LiveLaws.{live_parts}
use Rattle.sessionlaws.proofs.LayoutLaws.{announcing}
use Rattle.sessions.proofs.layout_of.Lts
use Rattle.sessions.proofs.layout_of.Reads
use Rattle.sessions.proofs.layout_of.Tie
use Rattle.sessions.proofs.layout_of.Goals as goal

abbrev Start : Type 0
Start = Lts.Start Tie.the-claims Reads.Pre Reads.Post

abbrev After-pages_shape-first : Type 0
After-pages_shape-first = Lts.After-pages_shape Tie.the-claims Reads.Pre Reads.Post

abbrev After-shape_of-counts : Type 0
After-shape_of-counts = Lts.After-shape_of Tie.the-claims Reads.Pre Reads.Post

abbrev After-shape_of-last : Type 0
After-shape_of-last = Lts.After-shape_of2 Tie.the-claims Reads.Pre Reads.Post

lives : (s : Start) → Live s.args.s
lives s = live_parts s.args.s s.requires

-- the start, seen from where the shape of the pages is known and from where the other two are
abbrev from-pages : After-pages_shape-first → Start
from-pages c = c.before.before.before

abbrev from-counts : After-shape_of-counts → After-pages_shape-first
from-counts c = c.before.before.before

abbrev from_places : After-shape_of-last → After-shape_of-counts
from_places c = c.before.before.before

pub pages_shape-first-requires : goal.pages_shape-first-requires
pages_shape-first-requires c =
    let a = (lives c.before.before).announced in
    (a.pages, a.within)

pub shape_of-counts-requires : goal.shape_of-counts-requires
shape_of-counts-requires c =
    let a = (lives (from-pages c.before.before)).announced in
    (a.counts, omega (arith, a.positions, a.reach))

pub shape_of-last-requires : goal.shape_of-last-requires
shape_of-last-requires c =
    let a = (lives (from-pages (from-counts c.before.before))).announced in
    (a.positions, a.reach)

pub layout-requires : goal.layout-requires
layout-requires c =
    let k = from-counts (from_places c) in
    let s = from-pages k in
    let x = s.args.s in
    announcing x.version x.n x.pages x.positions x.u (lives s).accepts k.pages_shape-first.ensures
    c.shape_of-counts.ensures c.shape_of-last.ensures

pub returns : goal.returns
returns c =
    let l = c in
    let k = l in
    let s = k.args.s in
    c.layout.ensures s.version s.n s.pages s.positions s.u k.pages_shape-first.ensures
    l.shape_of-counts.ensures c.shape_of-last.ensures

-- `find` ends where the step rule's seek does, case by case.
use mathlib.Core.Path.{◌≡◌, refl, sym, ◌∙◌}
use mathlib.Core.Logic.{inl, inr}
use Prim.Native.Nat.{◌<◌}
use native.Mathlib.Omega.{arith}
use borrow.Author.Tests.{leb-false}
use Rattle.rules.specs.List.{two_runs, bitmap}
use Rattle.rules.specs.ReadList.{form_at}
use Rattle.maplaws.proofs.Theorems.{valid_form}
use Rattle.readlaws.specs.Open.{Open, MapOpen}
use Rattle.readlaws.proofs.FormLaws.{map_reads, wide_open, narrow_open}
use Rattle.walklaws.specs.Cursors.{Moving}
use Rattle.walklaws.proofs.OpenLaws.{Stored, form_stored, open_two, open_stored}
use Rattle.walklaws.proofs.StartLaws.{own_inside, start_map}
use Rattle.walklaws.proofs.RuleLaws.{ends_stays, ends_none, ends_at_end, ends_walked}
use Rattle.seek.proofs.find.Lts
use Rattle.seek.proofs.find.Reads
use Rattle.seek.proofs.find.Tie
use Rattle.seek.proofs.find.Goals as goal
use Rattle.seek.proofs.find.Lts.{then-g-eq0-via-then-g-eq0, then-g-eq0-via-else-g-eq0+then-g-b-2}
use Rattle.seek.proofs.find.Lts.{else-from-eq0-via-then-from-eq0+else-from-g, else-from-eq0-via-else-from-eq0}

abbrev Start : Type 0
Start = Lts.Start Tie.the-claims Reads.Pre Reads.Post

abbrev After-struct_known-2-1 : Type 0
After-struct_known-2-1 = Lts.After-struct_known3 Tie.the-claims Reads.Pre Reads.Post

abbrev Else-g-b : Type 0
Else-g-b = Lts.Else3 Tie.the-claims Reads.Pre Reads.Post

abbrev Else-g-b-2 : Type 0
Else-g-b-2 = Lts.Else5 Tie.the-claims Reads.Pre Reads.Post

abbrev Joined-else-from-eq0 : Type 0
Joined-else-from-eq0 = Lts.Joined6 Tie.the-claims Reads.Pre Reads.Post

stored : (b : Start) → Stored (form_at b.args.s.now) b.args.s.now b.args.g
stored b = form_stored (form_at b.args.s.now) b.args.s.now b.args.g b.requires.0

pub returns-then-b-c : goal.returns-then-b-c
returns-then-b-c c =
    let b = c in
    ends_stays (form_at b.args.s.now) b.args.s.now b.args.g (stored b.before.before.before.before.before) b.args.c b.requires.1
    b.args.b c.if-b-c.true _ _ refl refl

-- the function's own start, seen from behind the first tests
abbrev begun : After-struct_known-2-1 → Start
begun c = c.before.before.before.before

-- past these, and in a list with an element and a bound below U, the cursor moves
moving : (c : After-struct_known-2-1) → 0 < c.args.g.n → c.args.b < c.args.g.u
    → Moving (form_at c.args.s.now) c.args.s.now c.args.c c.args.b
moving c some below =
    let b = c in
    record {
      cursor = b.requires.1;
      some = omega (arith, (stored b.before.before.before.before).n_is);
      ahead = c.if-b-c.false;
      below = omega (arith, (stored b.before.before.before.before).u_is);
    }

-- ---- a bitmap

pub returns-then-g-b : goal.returns-then-g-b
returns-then-g-b c =
    let at = c in
    let b = at in
    ends_none (form_at b.args.s.now) b.args.s.now b.args.g (stored b.before.before.before.before.before.before.before.before.before) b.args.c b.requires.1
    b.args.b _ _ at.if-b-c.false (inr c.if-g-b.true) c.none.ensures

-- what the tests found first, seen from behind the bitmap's own
abbrev tested : Else-g-b → After-struct_known-2-1
tested c = c.before.before.before

map : (c : Else-g-b) → MapOpen c.args.s.now c.args.g
map c =
    let b = c in
    wide_open (form_at b.args.s.now) b.args.s.now b.args.g b.requires.0
    c.if-g-eq-BITMAP.true

map_form : (c : Else-g-b) → form_at c.args.s.now ≡ bitmap
map_form c = valid_form bitmap c.args.s.now (map c).valid

map_moving : (c : Else-g-b) →
    let a = c.args in
    Moving bitmap a.s.now a.c a.b
map_moving c =
    let b = c in
    rw (map_form c) at
    (moving c.before.before.before (omega (arith, (map c).valid.some refl, (stored b.before.before.before.before.before.before.before).n_is)) (omega (arith, c.if-g-b.false)))

pub find_in_map-requires : goal.find_in_map-requires
find_in_map-requires c =
    let at = c in
    let b = at in
    let m = map_moving at.before.before in (
      map at.before.before,
      omega (arith, m.below, (stored b.before.before.before.before.before.before.before.before.before).u_is),
      b.requires.2,
    )

pub returns-then-g-eq-BITMAP : goal.returns-then-g-eq-BITMAP
returns-then-g-eq-BITMAP c =
    let at = c in
    let a = at.args in
    let o = map at.before.before.before in
    let m = map_moving at.before.before.before in
    let t = form_stored bitmap a.s.now a.g o in
    let l = c.find_in_map.ensures in
    let start = start_map a.s.now a.g t a.c a.b m in
    rw (map_form at.before.before.before) (ends_walked bitmap a.s.now a.g t a.c m.cursor a.b m _ _ _
    (omega (arith, start, (map_reads a.s.now a.g o).bits_are, m.below, t.u_is)) l.0
    (rw start (omega (arith, l.1))))

-- ---- two runs

pub returns-then-g-eq0 : goal.returns-then-g-eq0
returns-then-g-eq0 c =
    let at = c in
    let b = at in
    ends_none (form_at b.args.s.now) b.args.s.now b.args.g (stored b.before.before.before.before.before.before.before.before.before) b.args.c b.requires.1
    b.args.b _ _ at.if-b-c.false (elim c.then-g-eq0.branch [
      | then-g-eq0-via-then-g-eq0 w ↦ inl (omega arith)
      | then-g-eq0-via-else-g-eq0+then-g-b-2 w ↦ inr (omega arith)
    ]) c.none-then-g-eq0.ensures

-- the function's own start, seen from behind all tests but the last
abbrev run-begun : Else-g-b-2 → Start
run-begun c = c.before.before.before.before.before.before.before.before.before

runs : (c : Else-g-b-2) → Open c.args.s.now c.args.g
runs c =
    let b = c in
    narrow_open (form_at b.args.s.now) b.args.s.now b.args.g b.requires.0
    c.if-g-eq-BITMAP.false

runs_moving : (c : Else-g-b-2) →
    let a = c.args in
    Moving two_runs a.s.now a.c a.b
runs_moving c =
    let b = c in
    rw (open_two b.args.s.now b.args.g (runs c)) at
    (moving c.before.before.before.before.before (omega arith) (omega (arith, leb-false)))

pub start-from-requires : goal.start-from-requires
start-from-requires c = (runs c.before, runs_moving c.before)

pub returns-then-from-g : goal.returns-then-from-g
returns-then-from-g c =
    let there = c in
    let b = there in
    let a = b.args in
    let o = runs there.before.before.before.before.before.before.before.before in
    let m = runs_moving there.before.before.before.before.before.before.before.before in
    let here : there.start-from.result.bit ≡ a.g.bits = c.if-from-g.true in
    rw (open_two a.s.now a.g o)
    (ends_at_end two_runs a.s.now a.g (open_stored a.s.now a.g o) a.c m.cursor a.b m _ _
    (sym there.start-from.ensures.1 ∙ here) c.none-then-from-g.ensures)

-- where the start is not the run's end
inside : (c : Joined-else-from-eq0)
    → c.start-from.result.bit < c.args.g.bits
inside c =
    let there = c in
    let b = there in
    let t = there.start-from.ensures.0 in
    elim c.else-from-eq0.branch [
      | else-from-eq0-via-then-from-eq0+else-from-g w ↦ omega (arith, t.within, w.if-from-g.false)
      | else-from-eq0-via-else-from-eq0 w ↦ own_inside b.args.s.now b.args.g (runs there.before.before.before) b.args.b there.start-from.result t
          w.if-from-eq0.false
    ]

pub pass-at-requires : goal.pass-at-requires
pass-at-requires c =
    let there = c in
    let b = there in (
      runs there.before.before.before.before.before,
      omega (arith, (runs_moving there.before.before.before.before.before).below, (stored b.before.before.before.before.before.before.before.before.before.before.before.before.before.before).u_is),
      there.start-from.ensures.0,
      inside c.before.before,
      b.requires.2,
    )

pub land-requires : goal.land-requires
land-requires c =
    let there = c in
    let p = c.pass-at.ensures in
    (runs there.before.before.before.before.before.before.before, p.0.at, p.0.passed, omega (arith, p.1, there.requires.2))

pub returns : goal.returns
returns c =
    let there = c in
    let b = there in
    let a = b.args in
    let o = runs there.before.before.before.before.before.before.before.before in
    let m = runs_moving there.before.before.before.before.before.before.before.before in
    let e = there.start-from.ensures.1 in
    let l = c.land.ensures in
    rw (open_two a.s.now a.g o)
    (ends_walked two_runs a.s.now a.g (open_stored a.s.now a.g o) a.c m.cursor a.b m _ _ _
    (omega (arith, e, inside c.before.before.before.before.before)) l.0
    (rw (← e) (omega (arith, l.1, c.pass-at.ensures.1))))

pub none-requires : goal.none-requires
none-requires c = tt

pub none-requires-then-g-eq0 : goal.none-requires-then-g-eq0
none-requires-then-g-eq0 c = tt

pub none-requires-then-from-g : goal.none-requires-then-from-g
none-requires-then-from-g c = tt

-- `batch` seeks list by list: what is left to be sought comes to the rule's next page, and what is left to be
-- listed, behind what was, to the batch. The measure: the seeks that may follow.
use mathlib.Core.Path.{◌≡◌, ◌∙◌}
use Prim.Native.Nat.{◌-◌, ◌^◌, ◌<◌}
use native.Mathlib.Omega.{arith}
use lib.ListN.{length, set, length-set}
use Rattle.walklaws.specs.Cursors.{spent_mark, unused}
use Rattle.querylaws.specs.Queries.{with_cursor, seeks_of}
use Rattle.querylaws.proofs.RunLaws.{midst_seekable, midst_some, midst_less}
use Rattle.querylaws.proofs.BatchLaws.{Step, amid_start, amid_none, amid_larger, amid_same, amid_page}
use Rattle.querylaws.proofs.BatchLaws.{amid_full}
use Rattle.query.proofs.batch.Lts
use Rattle.query.proofs.batch.Reads
use Rattle.query.proofs.batch.Tie
use Rattle.query.proofs.batch.Goals as goal
use Rattle.query.proofs.batch.Lts.{else-i-gt0-via-then-i-gt0+else-b-page, else-i-gt0-via-else-i-gt0}

abbrev At-loop-q : Type 0
At-loop-q = Lts.At-loop Tie.the-claims Reads.Pre Reads.Post goal.the-invariant-loop-q goal.the-decreases-loop-q

abbrev After-seek_in-s : Type 0
After-seek_in-s = Lts.After-seek_in Tie.the-claims Reads.Pre Reads.Post goal.the-invariant-loop-q goal.the-decreases-loop-q

abbrev Joined-else-i-gt0 : Type 0
Joined-else-i-gt0 = Lts.Joined2 Tie.the-claims Reads.Pre Reads.Post goal.the-invariant-loop-q goal.the-decreases-loop-q

pub loop-q-init : goal.loop-q-init
loop-q-init c =
    let p = c.requires in
    amid_start _ _ _ _ _ _ p.0 p.1

-- the list that is sought is one of the eight
few : (c : At-loop-q) → c.loop-q.i < 8
few c =
    let g = c.loop-q.invariant in
    omega (arith, g.within, g.midst.apt.lists.few)

pub seek_in-s-requires : goal.seek_in-s-requires
unfolding unused
seek_in-s-requires c =
    let l = c.loop-q in
    let a = l.invariant in
    midst_seekable _ _ _ a.from a.bound l.q l.b l.i a.midst a.within

pub shape_of-room-then-mark : goal.shape_of-room-then-mark
shape_of-room-then-mark c = c.loop-q.invariant.behind.long

-- what the seek of a round made
step : (k : After-seek_in-s) →
    let l = k.loop-q in
    let a = k.args in
    let r = k.seek_in-s.result in
    Step a.card.now a.shapes.now a.k a.q0 a.b0 a.room.now
    l.q l.b l.i l.found l.room r.hand
unfolding unused
step k =
    let e = k.seek_in-s.ensures in
    record { amid = k.loop-q.invariant; moved = e.1 }

pub returns-then-mark : goal.returns-then-mark
returns-then-mark c =
    let k = c in
    rw (c.turn_of.ensures, k.seek_in-s.ensures.0)
    (amid_none _ _ _ _ _ _ _ _ _ _ _ _ (step k.before.before.before.before.before) c.if-mark.true)

-- the mark that a seek leaves
marked : (k : After-seek_in-s) → 0 < k.seek_in-s.result.hand.mark
unfolding unused
marked k =
    let l = k.loop-q in
    let a = l.invariant in
    let s = k.seek_in-s in
    midst_some _ _ _ a.from a.bound l.q l.b l.i a.midst a.within s.result.hand s.ensures.1

-- behind a page fewer seeks may follow
fewer : (k : After-seek_in-s) → (k.seek_in-s.result.hand.mark ≡ spent_mark → ⊥)
    → let l = k.loop-q in
    2 ^ 28 - seeks_of (with_cursor l.q l.i k.seek_in-s.result.hand) < 2 ^ 28 - seeks_of l.q
unfolding unused
fewer k =
    let l = k.loop-q in
    let a = l.invariant in
    let s = k.seek_in-s in
    midst_less _ _ _ a.from a.bound l.q l.b l.i a.midst a.within s.result.hand s.ensures.1

pub loop-q-smaller-then-b-page : goal.loop-q-smaller-then-b-page
loop-q-smaller-then-b-page c =
    let k = c in
    rw k.seek_in-s.ensures.0 (fewer k.before.before.before.before.before.before c.if-mark.false)

pub loop-q-preserved-then-b-page : goal.loop-q-preserved-then-b-page
unfolding unused
loop-q-preserved-then-b-page c =
    let k = c in
    rw k.seek_in-s.ensures.0
    (amid_larger _ _ _ _ _ _ _ _ _ _ _ _ (step k.before.before.before.before.before.before)
    c.if-mark.false (omega (arith, c.if-i-gt0.true))
    (c.if-b-page.true))

-- past that test the page is no larger one
no_larger : (c : Joined-else-i-gt0) → 0 < c.loop-q.i
    → c.loop-q.b
    < c.seek_in-s.result.hand.mark - 1 → ⊥
no_larger c h g = elim c.else-i-gt0.branch [
  | else-i-gt0-via-then-i-gt0+else-b-page w ↦ omega (arith, w.if-b-page.false)
  | else-i-gt0-via-else-i-gt0 w ↦ omega (arith, w.if-i-gt0.false)
]

pub bounds-room-found : goal.bounds-room-found
bounds-room-found c =
    let g = c.loop-q.invariant in
    omega (arith, g.behind.space, g.behind.long)

pub shape_of-room-then-room-found : goal.shape_of-room-then-room-found
shape_of-room-then-room-found c =
    let l = c.loop-q in
    length-set l.room l.found _ ∙ l.invariant.behind.long

-- the room is as long with the page in it
room_long : (k : After-seek_in-s) →
    let l = k.loop-q in
    length (set l.room l.found (k.seek_in-s.result.hand.mark - 1))
    ≡ length k.args.room.now
room_long k =
    let l = k.loop-q in
    length-set l.room l.found (k.seek_in-s.result.hand.mark - 1) ∙ l.invariant.behind.long

pub returns-then-room-found : goal.returns-then-room-found
returns-then-room-found c =
    let k = c in
    rw (c.turn_of-then-room-found.ensures, k.seek_in-s.ensures.0)
    (amid_full _ _ _ _ _ _ _ _ _ _ _ _ (step k.before.before.before.before.before.before.before.before)
    c.if-mark.false (no_larger c.before.before.before.before) c.if-k-i.true
    (omega (arith, c.if-room-found.true, room_long k.before.before.before.before.before.before.before.before)))

pub loop-q-smaller-then-k-i : goal.loop-q-smaller-then-k-i
loop-q-smaller-then-k-i c =
    let k = c in
    rw k.seek_in-s.ensures.0 (fewer k.before.before.before.before.before.before.before c.if-mark.false)

pub loop-q-preserved-then-k-i : goal.loop-q-preserved-then-k-i
loop-q-preserved-then-k-i c =
    let k = c in
    rw k.seek_in-s.ensures.0
    (amid_page _ _ _ _ _ _ _ _ _ _ _ _ (step k.before.before.before.before.before.before.before)
    c.if-mark.false (no_larger c.before.before.before) c.if-k-i.true
    (omega (arith, c.if-room-found.false, room_long k.before.before.before.before.before.before.before)))

pub loop-q-smaller : goal.loop-q-smaller
loop-q-smaller c =
    let k = c in
    rw k.seek_in-s.ensures.0 (fewer k.before.before.before.before.before.before c.if-mark.false)

pub loop-q-preserved : goal.loop-q-preserved
unfolding unused
loop-q-preserved c =
    let k = c in
    rw k.seek_in-s.ensures.0
    (amid_same _ _ _ _ _ _ _ _ _ _ _ _ (step k.before.before.before.before.before.before)
    c.if-mark.false (no_larger c.before.before) c.if-k-i.false)

pub offset_bounds-q-i : goal.offset_bounds-q-i
offset_bounds-q-i c = omega (arith, few c.before)

pub bounds-q-i : goal.bounds-q-i
bounds-q-i c = omega (arith, few c.before)

pub offset_bounds-q-i-in-loop-q : goal.offset_bounds-q-i-in-loop-q
offset_bounds-q-i-in-loop-q c = omega (arith, few c.before.before.before.before.before)

pub bounds-q-i-in-loop-q : goal.bounds-q-i-in-loop-q
bounds-q-i-in-loop-q c = omega (arith, few c.before.before.before.before.before)

pub turn_of-requires : goal.turn_of-requires
turn_of-requires c = tt

pub overflow_sub-page : goal.overflow_sub-page
overflow_sub-page c = marked c.before.before.before.before

pub overflow_add-i : goal.overflow_add-i
overflow_add-i c = omega (arith, few c.before.before.before.before.before.before.before)

pub overflow_sub-room : goal.overflow_sub-room
overflow_sub-room c = marked c.before.before.before.before.before.before

pub turn_of-requires-then-room-found : goal.turn_of-requires-then-room-found
turn_of-requires-then-room-found c = tt

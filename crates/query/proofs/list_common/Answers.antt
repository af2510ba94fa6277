-- `list_common` lists one batch of pages in the room, if there is any, and counts the others batch by batch: the bound
-- grows with each.
use mathlib.Core.Path.{refl, sym, ◌∙◌}
use Prim.Native.Nat.{◌+◌, ◌-◌}
use native.Mathlib.Omega.{arith}
use Rattle.querylaws.proofs.NewLaws.{new_running}
use Rattle.querylaws.proofs.BatchLaws.{batched_long}
use Rattle.querylaws.proofs.ListingLaws.{Listing, listing_none, listing_first, listing_few, listing_on, listing_more}
use Rattle.querylaws.proofs.ListingLaws.{listing_less, listing_narrow, listing_end}
use Rattle.query.proofs.list_common.Lts
use Rattle.query.proofs.list_common.Reads
use Rattle.query.proofs.list_common.Tie
use Rattle.query.proofs.list_common.Goals as goal
use Rattle.query.proofs.list_common.Lts.{then-room-gt0, else-room-gt0}

abbrev Joined-room-gt0 : Type 0
Joined-room-gt0 = Lts.Joined1 Tie.the-claims Reads.Pre Reads.Post goal.the-invariant-loop-s goal.the-decreases-loop-s

pub batch-s-requires : goal.batch-s-requires
batch-s-requires c =
    (rw c.new-q.ensures (new_running _ _ _ c.requires 0), omega (arith, c.if-room-gt0.true))

-- what the first batch listed; with no room there is none
first : (c : Joined-room-gt0) → Listing c.args.card.now
    c.args.shapes.now c.args.k
    c.args.room.now c.if-room-gt0.s.q c.if-room-gt0.s.mark c.if-room-gt0.s.found
    c.if-room-gt0.room
first c = elim c.if-room-gt0.branch [
  | then-room-gt0 e ↦
      rw (e.room-is, e.s-is)
      (listing_first _ _ _ _ c.requires e.batch-s.result _
      (rw c.new-q.ensures at e.batch-s.ensures))
  | else-room-gt0 e ↦
      rw (e.room-is, e.s-is, c.new-q.ensures)
      (listing_none _ _ _ _ c.requires (omega (arith, e.if-room-gt0.false)))
]

pub loop-s-init : goal.loop-s-init
loop-s-init c = (refl, λ room₀ g. g)

pub slice_bounds-batch-end : goal.slice_bounds-batch-end
slice_bounds-batch-end c = sym c.loop-s.invariant.0

pub batch-s-requires-in-loop-s : goal.batch-s-requires-in-loop-s
batch-s-requires-in-loop-s c =
    let l = c.loop-s in
    let g = l.invariant.1 _ (first c.before.before.before.before.before.before.before) in (
      (listing_on _ _ _ _ l.s.q l.s.mark l.found _ g c.loop-s-test.true).1.running,
      omega (arith, l.invariant.0),
    )

pub overflow_add-found : goal.overflow_add-found
overflow_add-found c =
    let l = c.loop-s in
    let n = c.batch-s-in-loop-s in
    let g = l.invariant.1 _ (first c.before.before.before.before.before.before.before.before.before.before) in
    let on = c.loop-s-test.true in
    let next = listing_more _ _ _ _ l.s.q l.s.mark l.found _ g on l.rest n.result _ n.ensures in
    omega (arith, listing_few _ _ _ _ n.result.q n.result.mark (l.found + n.result.found) _ next)

pub loop-s-smaller : goal.loop-s-smaller
loop-s-smaller c =
    let l = c.loop-s in
    let n = c.batch-s-in-loop-s in
    let g = l.invariant.1 _ (first c.before.before.before.before.before.before.before.before.before.before) in
    let on = c.loop-s-test.true in
    listing_less _ _ _ _ l.s.q l.s.mark l.found _ g on l.rest n.result _ n.ensures
    (omega (arith, l.invariant.0))

pub loop-s-preserved : goal.loop-s-preserved
loop-s-preserved c =
    let l = c.loop-s in
    let n = c.batch-s-in-loop-s in
    let on = c.loop-s-test.true in (
      batched_long _ _ _ l.s.q l.s.mark l.rest n.result _ n.ensures ∙ l.invariant.0,
      λ room₀ g.
          listing_more _ _ _ room₀ l.s.q l.s.mark l.found _ (l.invariant.1 room₀ g) on l.rest n.result _
          n.ensures,
    )

pub totals-requires : goal.totals-requires
totals-requires c =
    let l = c.loop-s in
    let g = l.invariant.1 _ (first c.before.before.before.before.before) in
    listing_narrow _ _ _ _ l.s.q l.s.mark l.found _ g c.loop-s-test.false

pub shape_of-room : goal.shape_of-room
shape_of-room c = (first c.before.before.before.before.before.before).long

pub returns : goal.returns
returns c =
    let l = c.loop-s in
    let g = l.invariant.1 _ (first c.before.before.before.before.before.before) in
    listing_end _ _ _ _ l.s.q l.s.mark l.found _ g c.loop-s-test.false _ c.totals.ensures

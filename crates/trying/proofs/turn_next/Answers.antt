-- `turn_next` turns the word of the next slot, which has the page ahead.
use mathlib.Core.Path.{◌≡◌, refl, sym, ap, ◌∙◌}
use Prim.Native.Nat.{ℕ, ◌+◌, ◌≤◌, ◌<◌}
use native.Mathlib.Omega.{arith}
use lib.Dec.{lit≤}
use lib.ListN.{length}
use mir.Syntax.{w64}
use mir.Val.{Fits}
use Rattle.walklaws.specs.Cursors.{unused}
use Rattle.querylaws.specs.Ranks.{rank_by}
use Rattle.openlists.specs.Places.{slot_of}
use Rattle.triallaws.specs.Asked.{pages_in, lead_in}
use Rattle.triallaws.proofs.RankLaws.{lead_few, asked_rank, rank_ready, turn_ready, trying_turned}
use Rattle.triallaws.proofs.TrialLaws.{next_within, next_slot}
use Rattle.trying.proofs.turn_next.Lts
use Rattle.trying.proofs.turn_next.Reads
use Rattle.trying.proofs.turn_next.Tie
use Rattle.trying.proofs.turn_next.Goals as goal

abbrev After-source_of-i : Type 0
After-source_of-i = Lts.After-source_of Tie.the-claims Reads.Pre Reads.Post

abbrev Start : Type 0
Start = Lts.Start Tie.the-claims Reads.Pre Reads.Post

abbrev After-ranks_at-x : Type 0
After-ranks_at-x = Lts.After-ranks_at Tie.the-claims Reads.Pre Reads.Post

abbrev After-rank_in-rank : Type 0
After-rank_in-rank = Lts.After-rank_in Tie.the-claims Reads.Pre Reads.Post

-- a place up to the row's end
in_row : {k n : ℕ} → n ≡ 201 → k ≤ 201 → k ≤ n
in_row e l = omega arith

-- one more than a number of words
few_fits : {k n : ℕ} → k ≤ n → n ≤ 8 → Fits w64 (k + 1)
few_fits l h = omega arith

abbrev start : After-source_of-i → Start
start c = c.before.before.before.before.before.before.before.before

-- where the source was found, and where the rank was read
abbrev source : After-ranks_at-x → After-source_of-i
source c = c.before.before.before.before.before.before.before

abbrev rank : After-ranks_at-x → After-rank_in-rank
rank c = c.before.before.before

-- the word of the next slot, which is not turned yet
next : (c : After-source_of-i)
    → let a = c.args in
    (c.source_of-i.result < length a.terms.now)
    × (slot_of (lead_in a.lists.now) c.source_of-i.result ≡ a.at.standing) × (a.at.standing ≡ a.at.turned)
next c =
    let b = c in
    let y = b.requires.2 in (
      omega (arith, c.source_of-i.ensures, next_within _ _ _ _ _ _ b.requires.0.asked _ _ _ _ y),
      ap (slot_of (lead_in b.args.lists.now)) c.source_of-i.ensures
          ∙ next_slot _ _ _ _ _ _ b.requires.0.asked _ _ _ _ y,
      omega (arith, y.order, c.if-at.false),
    )

-- its slot is one of the query's
few : (c : After-source_of-i) → c.args.at.standing < 8
few c = omega (arith, c.requires.2.some, c.requires.0.asked.pages.lists.few)

pub rank_in-rank-requires : goal.rank_in-rank-requires
unfolding unused
rank_in-rank-requires c =
    let b = c in
    let n = next c.before.before.before.before in
    let r = asked_rank _ _ _ _ _ _ b.requires.0.asked _ n.0 _ _ b.requires.1 in
    rw n.1 at r.on_element

-- the rank that was read
ranked : (c : After-rank_in-rank)
    → let f = c in
    let a = f.args in
    c.rank_in-rank.result
    ≡ rank_by a.card.now (pages_in a.lists.now) a.turn.q
    (slot_of (lead_in a.lists.now) f.source_of-i.result)
unfolding unused
ranked c =
    let f = c in
    let a = f.args in
    c.rank_in-rank.ensures
    ∙ ap (rank_by a.card.now (pages_in a.lists.now) a.turn.q) (sym (next f.before.before.before.before).1)

pub ranks_at-x-requires : goal.ranks_at-x-requires
ranks_at-x-requires c =
    let f = c in
    let b = f in
    let n = next f.before.before.before.before.before.before.before in
    let y = b.requires.2 in
    let r =
    rank_ready _ _ _ _ _ _ b.requires.0.asked _ _ b.requires.1 _ n.0 _ y.room
    (y.others _ n.0 (omega (arith, n.1, n.2))) in
    rw (ranked c.before.before.before) r

pub turn_to-requires : goal.turn_to-requires
turn_to-requires c =
    let t = c in
    let b = t in
    let n = next t.before.before.before.before.before.before.before.before.before.before.before.before in
    let e = rw (ranked t.before.before.before.before.before.before.before.before) at t.ranks_at-x.ensures in
    let r =
    turn_ready _ _ _ _ _ _ b.requires.0.asked _ _ b.requires.1 _ n.0 t.ranks_at-x.result e.0 _ _ e.1
    (b.requires.2.others _ n.0 (omega (arith, n.1, n.2))) in
    r

pub shape_of-words : goal.shape_of-words
shape_of-words c =
    let t = c in
    c.turn_to.ensures.readable.room ∙ sym t.requires.2.room

pub returns : goal.returns
returns c =
    let t = c in
    let b = t in
    let n = next t.before.before.before.before.before.before.before.before.before.before.before.before.before.before.before.before in
    let y = b.requires.2 in
    let e = rw (ranked t.before.before.before.before.before.before.before.before.before.before.before.before) at t.ranks_at-x.ensures in (
      trying_turned _ _ _ _ _ _ b.requires.0.asked _ _ b.requires.1 _ n.0 t.ranks_at-x.result e.0 _ _ e.1
          _ _ _ y (n.1 ∙ n.2) c.turn_to.ensures,
      omega (arith, y.order),
      refl,
      refl,
    )

pub returns-then-at : goal.returns-then-at
returns-then-at c = (c.requires.2, c.if-at.true, refl, refl)

pub bounds-lists-192 : goal.bounds-lists-192
bounds-lists-192 c = in_row c.requires.0.row (lit≤ tt)

pub overflow_cast-lists : goal.overflow_cast-lists
overflow_cast-lists c = omega (arith, lead_few _ _ _ _ _ _ c.requires.0.asked)

pub source_of-i-requires : goal.source_of-i-requires
source_of-i-requires c = tt

pub offset_bounds-q-slot : goal.offset_bounds-q-slot
offset_bounds-q-slot c = omega (arith, few c.before.before)

pub bounds-q-slot : goal.bounds-q-slot
bounds-q-slot c = few c.before.before

pub slice_bounds-rank_in-count : goal.slice_bounds-rank_in-count
slice_bounds-rank_in-count c = lit≤ tt

pub slice_bounds-rank_in-start : goal.slice_bounds-rank_in-start
slice_bounds-rank_in-start c = lit≤ tt

pub slice_bounds-rank_in-end : goal.slice_bounds-rank_in-end
slice_bounds-rank_in-end c = in_row c.requires.0.row (lit≤ tt)

pub slice_bounds-ranks_at-count : goal.slice_bounds-ranks_at-count
slice_bounds-ranks_at-count c = lit≤ tt

pub slice_bounds-ranks_at-start : goal.slice_bounds-ranks_at-start
slice_bounds-ranks_at-start c = lit≤ tt

pub slice_bounds-ranks_at-end : goal.slice_bounds-ranks_at-end
slice_bounds-ranks_at-end c = in_row c.requires.0.row (lit≤ tt)

pub slice_bounds-turn_to-count : goal.slice_bounds-turn_to-count
slice_bounds-turn_to-count c = lit≤ tt

pub slice_bounds-turn_to-start : goal.slice_bounds-turn_to-start
slice_bounds-turn_to-start c = lit≤ tt

pub slice_bounds-turn_to-end : goal.slice_bounds-turn_to-end
slice_bounds-turn_to-end c = in_row c.requires.0.row (lit≤ tt)

pub overflow_add-result : goal.overflow_add-result
overflow_add-result c = let b = c in few_fits b.requires.2.within b.requires.0.asked.pages.lists.few

-- `list_starts` goes from common page to common page; fewer of the lead's are left each time.
use mathlib.Core.Path.{refl, sym, ◌∙◌}
use lib.ListN.{length, length-set}
use native.Mathlib.Omega.{arith}
use Rattle.querylaws.specs.Queries.{Turned}
use Rattle.querylaws.proofs.TurnLaws.{turned_page, turned_fewer}
use Rattle.querylaws.proofs.BatchLaws.{batched_long, batched_one}
use Rattle.triallaws.specs.Asked.{pages_in}
use Rattle.triallaws.proofs.PageLaws.{turned_least, turned_on, ahead_more}
use Rattle.triallaws.proofs.PairLaws.{laid_zero, going_start, going_few, going_end, going_on}
use Rattle.pairs.proofs.list_starts.Lts
use Rattle.pairs.proofs.list_starts.Reads
use Rattle.pairs.proofs.list_starts.Tie
use Rattle.pairs.proofs.list_starts.Goals as goal

abbrev After-batch-turn : Type 0
After-batch-turn = Lts.After-batch Tie.the-claims Reads.Pre Reads.Post goal.the-invariant-loop-words goal.the-decreases-loop-words

pub loop-words-init : goal.loop-words-init
loop-words-init c =
    let b = c in
    rw c.new-q.ensures
    (b.requires.0, going_start _ _ _ _ _ _ _ b.requires.0.asked _ b.args.room.now refl b.requires.1, refl)

pub shape_of-room-then-turn : goal.shape_of-room-then-turn
shape_of-room-then-turn c = c.loop-words.invariant.1.same ∙ length-set c.args.room.now 0 0

pub batch-turn-requires : goal.batch-turn-requires
batch-turn-requires c =
    let l = c in
    (l.loop-words.invariant.1.partway.running, omega (arith, l.loop-words.invariant.2))

-- the query behind the next common page
turned : (c : After-batch-turn)
    → let l = c in
    let a = l.args in
    Turned a.card.now (pages_in a.lists.now) (length a.terms.now) l.loop-words.q l.loop-words.b c.batch-turn.result
turned c =
    let l = c.loop-words in
    batched_one _ _ _ l.q l.b l.page c.batch-turn.result _ l.invariant.2 c.batch-turn.ensures

pub returns-then-turn : goal.returns-then-turn
returns-then-turn c =
    let l = c.loop-words in
    let n = c in
    let room = c.args.room.now in
    let g = l.invariant.1 in
    let a = l.invariant.0.asked in
    let e =
    going_end _ _ _ _ _ _ _ a _ l.q l.words l.b l.found l.room g n.batch-turn.result (turned n.before.before.before.before)
    c.if-turn.true in (
      e.0,
      omega (arith, going_few _ _ _ _ _ _ _ a _ l.q l.words l.b l.found l.room g),
      λ h. e.1 (rw (← e.0, length-set room 0 0) h) ∙ laid_zero _ room,
    )

pub page_starts-n-requires : goal.page_starts-n-requires
page_starts-n-requires c =
    let l = c.loop-words in
    let n = c in
    let left = c.if-turn.false in
    let apt = l.invariant.1.partway.running.apt in
    let least = turned_least _ _ _ l.q l.b apt n.batch-turn.result (turned n.before.before.before.before.before) left in (
      l.invariant.0,
      turned_on _ _ _ l.q l.b apt n.batch-turn.result (turned n.before.before.before.before.before) left,
      ahead_more _ _ _ _ _ l.b _ least l.invariant.1.ahead,
    )

pub overflow_sub-turn : goal.overflow_sub-turn
overflow_sub-turn c =
    let l = c.loop-words in
    let n = c in
    omega (
      arith,
      (turned_page _ _ _ l.q l.b l.invariant.1.partway.running.apt n.batch-turn.result (turned n.before.before.before.before.before.before.before.before.before)
          c.if-turn.false).2,
    )

pub put_pair-found-requires : goal.put_pair-found-requires
put_pair-found-requires c =
    let l = c.loop-words in
    omega (
      arith,
      going_few _ _ _ _ _ _ _ l.invariant.0.asked _ l.q l.words l.b l.found l.room
          l.invariant.1,
    )

pub loop-words-smaller : goal.loop-words-smaller
loop-words-smaller c =
    let l = c.loop-words in
    let n = c in
    turned_fewer _ _ _ l.q l.b l.invariant.1.partway.running.apt n.batch-turn.result (turned n.before.before.before.before.before.before.before.before.before.before.before.before.before.before) c.if-turn.false

pub loop-words-preserved : goal.loop-words-preserved
loop-words-preserved c =
    let l = c.loop-words in
    let n = c in
    let p = c.page_starts-n in
    let g = l.invariant.1 in
    let put = c.put_pair-found.ensures _ (sym g.found_is) in (
      l.invariant.0,
      going_on _ _ _ _ _ _ _ l.invariant.0.asked _ l.q l.words l.b l.found l.room g n.batch-turn.result
          (turned n.before.before.before.before.before.before.before.before.before.before.before.before.before.before) c.if-turn.false
          p.result _ p.ensures.0 p.ensures.2 _ _ put,
      batched_long _ _ _ l.q l.b l.page n.batch-turn.result _ n.batch-turn.ensures ∙ l.invariant.2,
    )

pub bounds-room-0 : goal.bounds-room-0
bounds-room-0 c = c.requires.1

pub slice_bounds-batch-end : goal.slice_bounds-batch-end
slice_bounds-batch-end c = omega (arith, c.requires.0.row)

pub slice_bounds-batch-end-in-loop-words : goal.slice_bounds-batch-end-in-loop-words
slice_bounds-batch-end-in-loop-words c = sym c.loop-words.invariant.2

pub slice_bounds-page_starts-end : goal.slice_bounds-page_starts-end
slice_bounds-page_starts-end c = sym c.loop-words.invariant.1.ahead.room

pub overflow_cast-n : goal.overflow_cast-n
overflow_cast-n c = omega (arith, c.page_starts-n.ensures.1)

-- `by_bound` finds the next page of the word's list alone.
use mathlib.Core.Path.{◌≡◌, refl}
use native.Mathlib.Omega.{arith}
use Rattle.rules.specs.ReadList.{decode}
use Rattle.rules.specs.Questions.{pages_in}
use Rattle.walklaws.specs.Cursors.{spent_mark}
use Rattle.querylaws.specs.Queries.{new_query, Turned}
use Rattle.querylaws.proofs.NewLaws.{new_running}
use Rattle.querylaws.proofs.BatchLaws.{batched_one}
use Rattle.kinds.proofs.KindLaws.{pages_are, pages_valid}
use Rattle.kinds.proofs.BoundLaws.{Paged, bound_none, bound_paged}
use Rattle.kinds.proofs.by_bound.Lts
use Rattle.kinds.proofs.by_bound.Reads
use Rattle.kinds.proofs.by_bound.Tie
use Rattle.kinds.proofs.by_bound.Goals as goal

abbrev After-batch-turn : Type 0
After-batch-turn = Lts.After-batch Tie.the-claims Reads.Pre Reads.Post

abbrev After-open_alone-shapes : Type 0
After-open_alone-shapes = Lts.After-open_alone Tie.the-claims Reads.Pre Reads.Post

pub open_alone-shapes-requires : goal.open_alone-shapes-requires
open_alone-shapes-requires c =
    let b = c in
    rw c.pages_in-pages.ensures (pages_valid b.args.card.now b.args.t b.requires.0 b.requires.1)

pub batch-turn-requires : goal.batch-turn-requires
batch-turn-requires c =
    let o = c in (
      rw c.new.ensures (new_running o.pages_in-pages.result.now o.open_alone-shapes.result 1
          o.open_alone-shapes.ensures.lists _),
      omega arith,
    )

-- what is known of the one list, seen from behind the search
abbrev opened : After-batch-turn → After-open_alone-shapes
opened c = c.before.before.before.before

-- the next page of the one list
next : (c : After-batch-turn) →
    let o = c in
    Turned o.pages_in-pages.result.now o.open_alone-shapes.result 1 new_query
    o.args.bound c.batch-turn.result
next c = rw c.new.ensures at (batched_one _ _ _ _ _ _ c.batch-turn.result _ refl c.batch-turn.ensures)

-- it is the word's
word_pages : (c : After-batch-turn) →
    let p = c in
    let a = p.args in
    pages_in a.card.now a.t ≡ decode p.pages_in-pages.result.now
word_pages c =
    let p = c in
    let a = p.args in
    rw p.pages_in-pages.ensures (pages_are a.card.now a.t)

pub returns-then-turn : goal.returns-then-turn
returns-then-turn c =
    let n = c in
    let o = n in
    let a = o.args in
    rw (
      word_pages n.before.before.before.before.before.before.before.before.before,
      bound_none o.pages_in-pages.result.now o.open_alone-shapes.result
          o.open_alone-shapes.ensures a.bound n.batch-turn.result (next n.before.before.before.before.before.before.before.before.before)
          c.if-turn.true,
    )
    c.put.ensures

-- behind a page the cursor is on it
paged : (c : After-batch-turn) → (c.batch-turn.result.mark ≡ spent_mark → ⊥) →
    let o = c in
    Paged o.pages_in-pages.result.now o.open_alone-shapes.result o.args.bound
    c.batch-turn.result
paged c m =
    let o = c in
    bound_paged o.pages_in-pages.result.now o.open_alone-shapes.result o.open_alone-shapes.ensures
    o.args.bound c.batch-turn.result (next c) m c.batch-turn.ensures.bit

pub rank_in-rank-requires : goal.rank_in-rank-requires
rank_in-rank-requires c =
    let n = c in
    (paged n.before.before.before.before.before c.if-turn.false).on_element

pub overflow_sub-turn : goal.overflow_sub-turn
overflow_sub-turn c = (paged c.before.before.before.before.before.before.before c.if-turn.false).marked

pub overflow_cast-rank : goal.overflow_cast-rank
overflow_cast-rank c =
    let p = paged c.before.before.before.before.before.before.before c.if-turn.false in
    omega (arith, c.rank_in-rank.ensures, p.narrow)

pub returns : goal.returns
returns c =
    let rank = c in
    let n = rank in
    rw (word_pages n.before.before.before.before.before.before.before.before.before.before.before.before, (paged n.before.before.before.before.before.before.before.before.before.before.before.before rank.if-turn.false).answer, ← rank.rank_in-rank.ensures)
    c.put-2.ensures

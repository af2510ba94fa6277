-- `answer_all` answers one question after the other. The loop's invariant: the run is under way, and comes out as the whole does.
use mathlib.Core.Path.{refl}
use Prim.Native.Nat.{◌-◌, ◌≤◌}
use native.Mathlib.Omega.{arith}
use lib.ListN.{length}
use Rattle.std.specs.Prelude.{None, Some}
use Rattle.replies.proofs.TurnLaws.{turn_inside, turn_good, turned}
use Rattle.ask.proofs.answer_all.Lts
use Rattle.ask.proofs.answer_all.Reads
use Rattle.ask.proofs.answer_all.Tie
use Rattle.ask.proofs.answer_all.Goals as goal

abbrev After-end_of-to : Type 0
After-end_of-to = Lts.After-end_of Tie.the-claims Reads.Pre Reads.Post goal.the-invariant-loop-run goal.the-decreases-loop-run

pub loop-run-init : goal.loop-run-init
loop-run-init c =
    let b = c in
    c.started-run.ensures b.args.card.now b.args.questions.now b.args.room.now b.requires.1

pub end_of-to-requires : goal.end_of-to-requires
end_of-to-requires c =
    let at = c.loop-run in
    let a = c.args in
    omega (
      arith,
      turn_inside a.card.now a.questions.now a.room.now at.room at.run.at at.run.answered
          at.run.used at.invariant _ c.loop-run-test.true refl,
    )

-- where the question ends
inside : (c : After-end_of-to)
    → c.end_of-to.result ≤ length c.args.questions.now
inside c =
    let at = c.loop-run in
    let a = c.args in
    turn_inside a.card.now a.questions.now a.room.now at.room at.run.at at.run.answered
    at.run.used at.invariant c.end_of-to.result c.loop-run-test.true c.end_of-to.ensures.0

pub offset_bounds-questions-from : goal.offset_bounds-questions-from
offset_bounds-questions-from c = omega (arith, inside c.before.before)

pub slice_bounds-answer_one-count : goal.slice_bounds-answer_one-count
slice_bounds-answer_one-count c = omega (arith, c.end_of-to.ensures.0)

pub slice_bounds-answer_one-start : goal.slice_bounds-answer_one-start
slice_bounds-answer_one-start c = omega (arith, c.end_of-to.ensures.0)

pub slice_bounds-answer_one-end : goal.slice_bounds-answer_one-end
slice_bounds-answer_one-end c = omega (arith, inside c.before.before)

pub offset_bounds-room-used : goal.offset_bounds-room-used
offset_bounds-room-used c = omega (arith, c.loop-run.invariant.fits)

pub slice_bounds-answer_one-count-in-loop-run : goal.slice_bounds-answer_one-count-in-loop-run
slice_bounds-answer_one-count-in-loop-run c = omega (arith, c.loop-run.invariant.fits)

pub slice_bounds-answer_one-start-in-loop-run : goal.slice_bounds-answer_one-start-in-loop-run
slice_bounds-answer_one-start-in-loop-run c = omega (arith, c.loop-run.invariant.fits)

pub answer_one-answered-requires : goal.answer_one-answered-requires
answer_one-answered-requires c =
    let e = c in
    let at = e.loop-run in
    let b = e in
    let a = b.args in (
      b.requires.0,
      turn_good a.card.now a.questions.now a.room.now at.room at.run.at at.run.answered
          at.run.used at.invariant e.end_of-to.result e.loop-run-test.true e.end_of-to.ensures.0,
    )

pub returns-in_default : goal.returns-in_default
returns-in_default c =
    let at = c.loop-run in
    let a = c.args in
    c.stopped.ensures _ _ _ _ _
    (turned a.card.now a.questions.now a.room.now at.room at.run.at at.run.answered at.run.used at.invariant _
    c.loop-run-test.true c.end_of-to.ensures.0 _ None c.in_default.ensures)

pub loop-run-preserved : goal.loop-run-preserved
loop-run-preserved c =
    let at = c.loop-run in
    let a = c.args in
    c.further-run.ensures.under _ _ _ _
    (turned a.card.now a.questions.now a.room.now at.room at.run.at at.run.answered at.run.used at.invariant _
    c.loop-run-test.true c.end_of-to.ensures.0 _ (Some c.in-Some.size) c.in-Some.ensures)

pub shape_of-room : goal.shape_of-room
shape_of-room c = c.loop-run.invariant.same

pub returns : goal.returns
returns c = c.ended.ensures _ _ _ _ c.loop-run.invariant c.loop-run-test.false

-- `spaced` passes the words of a list without low parts: a list that is accepted has no neighbours among its ones.
use mathlib.Core.Bool.{false≢true}
use mathlib.Core.Path.{◌≡◌}
use mathlib.Core.List.{List}
use Prim.Native.Nat.{ℕ, ◌+◌, ◌-◌, ◌/◌}
use native.Mathlib.Omega.{arith}
use borrow.Author.Tests.{eqb-true, eqb-false}
use Rattle.rules.specs.Runs.{words_for}
use Rattle.shape.specs.declared.Shape.{Shape}
use Rattle.checklaws.proofs.HoldLaws.{refuse_count, holds}
use Rattle.checklaws.proofs.StateLaws.{word_room}
use Rattle.checklaws.proofs.SpacedLaws.{Along, along_start, along_ready, along_refuse, along_next}
use Rattle.checklaws.proofs.SpacedLaws.{spaced_rises, holds_spaced, holds_tail}
use Rattle.checkwords.proofs.spaced.Goals as goal

pub tail_clear-requires : goal.tail_clear-requires
unfolding words_for
tail_clear-requires c =
    let d = c.requires.0.laid in
    omega (arith, d.some, d.most, d.length_is)

pub returns-then-not-tail_clear : goal.returns-then-not-tail_clear
returns-then-not-tail_clear c = (
  λ e. absurd (false≢true e),
  λ _ h. c.tail_clear.ensures.1 c.if-not-tail_clear.true (holds_tail c.args.s.now c.args.g c.requires.1 c.requires.0 h),
)

pub loop-k-init : goal.loop-k-init
loop-k-init c = along_start c.args.s.now c.args.g c.requires.0.laid

pub run_word-x-requires : goal.run_word-x-requires
unfolding words_for
run_word-x-requires c = word_room c.args.s.now c.args.g c.loop-k.k c.requires.0.laid c.loop-k-test.true

pub next_pointer-requires : goal.next_pointer-requires
unfolding words_for
next_pointer-requires c =
    let l = c.loop-k in
    along_ready c.args.s.now c.args.g c.requires.0.laid l.k l.i l.next l.carry l.invariant c.run_word-x.result
    c.loop-k-test.true c.run_word-x.ensures (omega arith)

pub returns-then-x-carry-ne0 : goal.returns-then-x-carry-ne0
unfolding words_for
returns-then-x-carry-ne0 c =
    let s = c.args.s.now in
    let g = c.args.g in
    let d = c.requires.0.laid in
    let l = c.loop-k in (
      λ e. absurd (false≢true e),
      λ _ h. along_refuse s g d l.k l.i l.next l.carry l.invariant c.run_word-x.result c.loop-k-test.true
          c.run_word-x.ensures (omega arith) c.if-x-carry-ne0.true (holds_spaced s g c.requires.1 c.requires.0 h),
    )

pub loop-k-preserved : goal.loop-k-preserved
unfolding words_for
loop-k-preserved c =
    let l = c.loop-k in
    let r = c.in-Some.ensures.goes_on in
    along_next c.args.s.now c.args.g c.requires.0.laid l.k l.i l.next l.carry l.invariant c.run_word-x.result
    c.loop-k-test.true c.run_word-x.ensures (omega arith) c.if-x-carry-ne0.false c.in-Some.after r.0 r.1

-- all words are passed
end_at : (s : List ℕ) (g : Shape) (k i q b : ℕ) → k ≡ (g.bits + 63) / 64 → Along s g k i q b → Along s g (words_for g.bits) i q b
unfolding words_for
end_at s g k i q b e a = rw e at a

pub returns : goal.returns
returns c =
    let s = c.args.s.now in
    let g = c.args.g in
    let t = c.requires.0 in
    let l = c.loop-k in
    let p = end_at s g l.k l.i l.next l.carry (omega arith) l.invariant in
    let clear = c.tail_clear.ensures.0 c.if-not-tail_clear.false in (
      λ y.
          let n = eqb-true l.i g.n y in
          holds s g t l.i l.next p.counted p.pointed n
          (spaced_rises s g c.requires.1 t (omega (arith, p.counted, n)) p.apart (clear (g.bits - 1) (omega arith) (omega arith))),
      λ y. refuse_count s g t l.i l.next p.counted p.pointed (eqb-false l.i g.n y),
    )

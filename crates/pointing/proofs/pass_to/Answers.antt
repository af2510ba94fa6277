-- `pass_to` passes words while the zeros up to their end are fewer than h.
use Rattle.std.proofs.Common.{◌≡◌, ◌-◌, ◌+◌, subst, arith}
use lib.Count.{ones, ones-le}
use Rattle.rules.specs.Runs.{words_for}
use Rattle.rules.specs.InPlace.{number_of}
use Rattle.pointlaws.specs.Pointing.{Reached}
use Rattle.pointlaws.proofs.PointLaws.{reached_end, pass_word, reached_word}
use Rattle.pointing.proofs.pass_to.Goals as goal

pub run_word-x-requires : goal.run_word-x-requires
unfolding words_for
run_word-x-requires c = omega (arith, c.requires.0, c.loop-words-test.true)

pub returns-then-h-through : goal.returns-then-h-through
unfolding words_for
returns-then-h-through c =
    let l = c.loop-words in
    let x = c.run_word-x.result in
    let few = ones-le 64 x c.run_word-x.type_inv in
    reached_word (words_for c.args.b) c.args.h c.args.run.now (record { words = l.words; zeros = l.zeros }) l.invariant
    (λ i. (c.type_inv.run i).fits) c.loop-words-test.true x c.run_word-x.ensures (l.zeros + 64 - ones x)
    (omega (arith, few)) c.if-h-through.true

pub loop-words-preserved : goal.loop-words-preserved
unfolding words_for
loop-words-preserved c =
    let l = c.loop-words in
    let x = c.run_word-x.result in
    let few = ones-le 64 x c.run_word-x.type_inv in
    pass_word (words_for c.args.b) c.args.h c.args.run.now (record { words = l.words; zeros = l.zeros }) l.invariant
    (λ i. (c.type_inv.run i).fits) c.loop-words-test.true x c.run_word-x.ensures (l.zeros + 64 - ones x)
    (omega (arith, few)) c.if-h-through.false

pub returns : goal.returns
unfolding words_for
returns c =
    let l = c.loop-words in
    let a = c.args in
    let m = words_for a.b in
    let e : l.words ≡ m = omega (arith, l.auto.words-end, c.loop-words-test.false, c.requires.2.within) in
    subst (λ k. Reached (number_of m a.run.now) m a.h (record { words = k; zeros = l.zeros })) e
    (reached_end m a.h a.run.now (record { words = l.words; zeros = l.zeros }) l.invariant (omega (arith, e)))

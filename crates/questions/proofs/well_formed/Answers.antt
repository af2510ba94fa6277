-- `well_formed` goes from question to question. The loop's invariant: what is left says what the whole says.
use mathlib.Core.Path.{◌≡◌, refl, sym, ap, ◌∙◌}
use mathlib.Core.List.{[]}
use native.Mathlib.Omega.{arith}
use lib.ListN.{length, drop}
use lib.Seq.{drop-length}
use Rattle.rules.specs.Questions.{well_formed}
use Rattle.questions.specs.Formed.{formed}
use Rattle.questions.proofs.PlaceLaws.{cut_short, formed_at}
use Rattle.questions.proofs.well_formed.Goals as goal

pub loop-at-init : goal.loop-at-init
loop-at-init c = (omega arith, refl)

pub returns-then-questions-at-lt2 : goal.returns-then-questions-at-lt2
returns-then-questions-at-lt2 c =
    let at = c.before.before.before in
    let a = at.args in
    sym (cut_short a.questions.now at.loop-at.at a.t (omega arith) (omega arith)) ∙ at.loop-at.invariant.1

pub returns-then-questions-to : goal.returns-then-questions-to
returns-then-questions-to c =
    let at = c.before.before.before.before.before in
    let a = at.args in
    let e = c.end_of-to.ensures.0 in
    sym (cut_short a.questions.now at.loop-at.at a.t (omega arith) (omega arith)) ∙ at.loop-at.invariant.1

pub returns-then-not-may_ask : goal.returns-then-not-may_ask
returns-then-not-may_ask c =
    let e = c.before.before.before.before.before.before in
    let at = e.before.before.before in
    let a = at.args in
    let f =
    formed_at a.questions.now at.loop-at.at e.end_of-to.result (omega arith) e.end_of-to.ensures.0 a.t
    (omega arith) in
    let g = sym c.may_ask.ensures ∙ c.if-not-may_ask.true in
    sym (f ∙ rw g) ∙ at.loop-at.invariant.1

pub loop-at-smaller : goal.loop-at-smaller
loop-at-smaller c = omega arith

pub loop-at-preserved : goal.loop-at-preserved
loop-at-preserved c =
    let e = c.before.before.before.before.before.before in
    let at = e.before.before.before in
    let a = at.args in
    let f =
    formed_at a.questions.now at.loop-at.at e.end_of-to.result (omega arith) e.end_of-to.ensures.0 a.t
    (omega arith) in
    let g = sym c.may_ask.ensures ∙ c.if-not-may_ask.false in
    (omega arith, sym (f ∙ rw g) ∙ at.loop-at.invariant.1)

pub returns : goal.returns
unfolding formed well_formed
returns c =
    let qs = c.args.questions.now in
    let i : c.loop-at.at ≡ length qs = omega arith in
    let d : drop c.loop-at.at qs ≡ [] = rw i (drop-length qs) in
    sym (ap (formed c.args.t) d) ∙ c.loop-at.invariant.1

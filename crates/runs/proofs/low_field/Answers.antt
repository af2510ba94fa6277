use native.Mathlib.Omega.{arith}
use mathlib.Core.Path.{◌∙◌}
use Rattle.rules.specs.Runs.{field, words_for}
use Rattle.laws.proofs.RunLaws.{run_field}
use Rattle.runs.proofs.low_field.Goals as goal

pub returns-then-w-eq0 : goal.returns-then-w-eq0
unfolding field
returns-then-w-eq0 c = rw c.if-w-eq0.true

pub run_word-lo-requires : goal.run_word-lo-requires
unfolding words_for
run_word-lo-requires c = omega arith

pub returns-then-b-w-le64 : goal.returns-then-b-w-le64
returns-then-b-w-le64 c =
    let r = c.before.before.before in
    let a = r.args in
    c.field_of.ensures
    ∙ run_field a.run.now 0 r.run_word-lo.result 0 a.o a.w (omega arith) r.run_word-lo.ensures
    (omega arith) (λ v. absurd (omega arith))

pub run_word-requires : goal.run_word-requires
unfolding words_for
run_word-requires c = omega arith

pub returns : goal.returns
returns c =
    let h = c.before.before in
    let r = h.before.before in
    let a = r.args in
    c.field_of-2.ensures
    ∙ run_field a.run.now 0 r.run_word-lo.result h.run_word.result a.o a.w (omega arith)
    r.run_word-lo.ensures (omega arith)
    (λ v. h.run_word.ensures)

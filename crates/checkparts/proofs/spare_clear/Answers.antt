-- `spare_clear` says whether the bits behind a run are 0: there are none, or they are the tail of its last word.
use mathlib.Core.Bool.{true≢false}
use native.Mathlib.Omega.{arith}
use Rattle.rules.specs.Runs.{words_for}
use Rattle.checklaws.proofs.SpareLaws.{clear_whole, tail_clear, clear_tail}
use Rattle.checkparts.proofs.spare_clear.Goals as goal

pub returns-then-size-eq0 : goal.returns-then-size-eq0
returns-then-size-eq0 c =
    let a = c.args in
    (λ _. clear_whole a.s.now a.at a.size c.if-size-eq0.true, λ e. absurd (true≢false e))

pub tail_clear-requires : goal.tail_clear-requires
unfolding words_for
tail_clear-requires c = omega arith

pub returns : goal.returns
returns c =
    let a = c.args in
    let r = c.tail_clear.ensures in (
      λ t. tail_clear a.s.now a.at a.size (omega arith) (r.0 t),
      λ t z. r.1 t (clear_tail a.s.now a.at a.size (omega arith) z),
    )

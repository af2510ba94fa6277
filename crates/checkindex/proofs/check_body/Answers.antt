-- `check_body` gives the refusal: of the limits first, and then of the terms.
use mathlib.Core.Path.{sym, ◌∙◌}
use Rattle.checkindex.proofs.TermsLaws.{over_N, over_T, within_limits}
use Rattle.checkindex.proofs.check_body.Goals as goal

pub returns-then-n-gt-LIMIT : goal.returns-then-n-gt-LIMIT
returns-then-n-gt-LIMIT c =
    let a = c.args in
    sym (over_N a.version a.t a.n a.s.now c.if-n-gt-LIMIT.true)

pub returns-then-t-gt-TERM_LIMIT : goal.returns-then-t-gt-TERM_LIMIT
returns-then-t-gt-TERM_LIMIT c =
    let e = c in
    let a = e.args in
    sym (over_T a.version a.t a.n a.s.now e.if-n-gt-LIMIT.false c.if-t-gt-TERM_LIMIT.true)

pub returns : goal.returns
returns c =
    let t = c in
    let e = t in
    let a = e.args in
    c.check_terms.ensures ∙ sym (within_limits a.version a.t a.n a.s.now e.if-n-gt-LIMIT.false t.if-t-gt-TERM_LIMIT.false)

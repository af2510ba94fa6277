-- `above` compares the first page, where there is one.
use mathlib.Core.Path.{sym}
use native.Mathlib.Omega.{arith}
use Rattle.sessionlaws.proofs.FollowLaws.{starts_none, starts_some}
use Rattle.following.proofs.above.Goals as goal

pub returns-in_default : goal.returns-in_default
returns-in_default c =
    let a = c.args in
    sym (starts_none a.least a.pages.now (omega (arith, c.in_default.ensures.item)))

pub returns : goal.returns
returns c =
    let a = c.args in
    let p = c.in-Some.ensures.item.3 in
    rw (p.1 0) (sym (starts_some a.least a.pages.now p.0))

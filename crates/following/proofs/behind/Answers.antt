-- `behind` gives the last page plus 1, where there is one.
use mathlib.Core.Path.{sym}
use Prim.Native.Nat.{◌-◌}
use native.Mathlib.Omega.{arith}
use lib.ListN.{length}
use Rattle.listlaws.proofs.RisingLaws.{rising_at}
use Rattle.wordlaws.proofs.CheckLaws.{next_last}
use Rattle.sessionlaws.proofs.FollowLaws.{next_none}
use Rattle.following.proofs.behind.Goals as goal

pub returns-in_default : goal.returns-in_default
returns-in_default c =
    let a = c.args in
    sym (next_none a.least a.pages.now (omega (arith, c.in_default.ensures.item)))

pub overflow_add-result : goal.overflow_add-result
overflow_add-result c =
    let xs = c.args.pages.now in
    let p = c.in-Some.ensures.item.3 in
    omega (arith, p.1 0, c.requires.1, (rising_at 0 c.args.n xs c.requires.0 (length xs - 1) (omega arith)).1)

pub returns : goal.returns
returns c =
    let a = c.args in
    let p = c.in-Some.ensures.item.3 in
    rw (p.1 0) (sym (next_last a.least a.pages.now (length a.pages.now - 1) (omega arith)))

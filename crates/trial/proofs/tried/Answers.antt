-- `tried` goes on as its cases say.
use Prim.Native.Nat.{◌+◌}
use native.Mathlib.Omega.{arith}
use borrow.Author.Tests.{eq-eqb, ne_eqb, lt-ltb, le-ltb}
use Rattle.trial.specs.Tries.{tried_at}
use Rattle.trial.proofs.tried.Goals as goal

pub returns-then-next-at : goal.returns-then-next-at
unfolding tried_at
returns-then-next-at c =
    let a = c.args in
    rw (ne_eqb a.next a.at.start c.if-next-at.true)

pub returns-then-at-k : goal.returns-then-at-k
unfolding tried_at
returns-then-at-k c =
    let a = c.args in
    rw (eq-eqb a.next a.at.start c.if-next-at.false, lt-ltb (a.at.standing + 1) a.k c.if-at-k.true)

pub returns : goal.returns
unfolding tried_at
returns c =
    let a = c.args in
    rw (eq-eqb a.next a.at.start c.if-next-at.false, le-ltb (a.at.standing + 1) a.k (omega (arith, c.if-at-k.false)))

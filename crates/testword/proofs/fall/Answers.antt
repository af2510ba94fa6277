-- `fall` compares an element with the one before it.
use mathlib.Core.Path.{◌≡◌, sym, ap, ◌∙◌, subst}
use Prim.Native.Nat.{suc, ◌-◌}
use native.Mathlib.Omega.{arith}
use Rattle.wordlaws.specs.Reach.{fall_at}
use Rattle.wordlaws.proofs.FallLaws.{fall_none, fall_one, fall_first}
use Rattle.testword.proofs.fall.Goals as goal

pub returns-then-i-eq0 : goal.returns-then-i-eq0
returns-then-i-eq0 c =
    let a = c.args in
    (sym (ap (fall_at a.list.now) c.if-i-eq0.true ∙ fall_first a.list.now), omega arith)

pub returns-then-list-i : goal.returns-then-list-i
returns-then-list-i c =
    let s = c in
    let xs = s.args.list.now in
    let e : suc (s.args.i - 1) ≡ s.args.i = omega (arith, c.if-i-eq0.false) in
    (sym (subst (λ n. fall_at xs n ≡ 0) e (fall_none xs (s.args.i - 1) (rw e c.if-list-i.true))), omega arith)

pub returns : goal.returns
returns c =
    let s = c in
    let xs = s.args.list.now in
    let e : suc (s.args.i - 1) ≡ s.args.i = omega (arith, c.if-i-eq0.false) in
    (sym (subst (λ n. fall_at xs n ≡ 1) e (fall_one xs (s.args.i - 1) (rw e c.if-list-i.false))), omega arith)

-- `rises` compares each element with the one before it: what is left to test gives what all of it gives, unless one falls.
use mathlib.Core.Path.{◌≡◌, refl, sym, ◌∙◌, subst}
use Prim.Native.Nat.{◌+◌, ◌-◌, ◌<◌}
use native.Mathlib.Numerals.{add-one}
use native.Mathlib.Omega.{arith}
use lib.ListN.{length, get_or}
use Rattle.filllaws.proofs.RiseLaws.{rising_none, climbs_end, Compared}
use Rattle.filllaws.proofs.RiseLaws.{compared_none, compared_fell, compared_falls, compared_on}
use Rattle.rising.proofs.rises.Goals as goal
use Rattle.rising.proofs.rises.Goals.{then-list-i, else-list-i}

pub returns-then-list-eq0 : goal.returns-then-list-eq0
returns-then-list-eq0 c = sym (rising_none 0 c.args.u c.args.list.now c.if-list-eq0.true)

pub loop-i-init : goal.loop-i-init
loop-i-init c =
    let a = c.args in
    (omega arith, omega arith, refl, compared_none a.u a.list.now (omega arith))

pub loop-i-preserved : goal.loop-i-preserved
loop-i-preserved c =
    let l = c.before.before.before.before.before in
    let a = l.args in
    let xs = a.list.now in
    let i = l.loop-i.i in
    let h : i < length xs = omega arith in
    let k = l.loop-i.invariant.3 in (
      omega arith,
      omega arith,
      omega arith,
      elim c.if-list-i.branch [
        | then-list-i t ↦ subst (λ b. Compared a.u xs b (i + 1)) (sym t.falls-is)
            (compared_fell a.u xs (i + 1) (compared_falls a.u xs i h l.loop-i.falls k t.if-list-i.true))
        | else-list-i t ↦ subst (λ b. Compared a.u xs b (i + 1)) (sym t.falls-is)
            (compared_on a.u xs i h l.loop-i.falls k t.if-list-i.false)
      ],
    )

pub returns-then-falls : goal.returns-then-falls
returns-then-falls c = sym (c.loop-i.invariant.3.0 c.if-falls.true)

pub overflow_cast-result : goal.overflow_cast-result
overflow_cast-result c =
    let xs = c.args.list.now in
    omega (arith, c.shared_slice_known-2-1.given (length xs - 1))

pub returns : goal.returns
returns c =
    let l = c.before.before.before.before in
    let a = l.args in
    let i = l.loop-i.i in
    let e : i ≡ length a.list.now = omega arith in
    rw (← e) (sym (l.loop-i.invariant.3.1 c.if-falls.false
    ∙ climbs_end a.u a.list.now (get_or a.list.now (i - 1) 0 + 1) i (omega arith) ∙ rw add-one))

pub overflow_sub-i : goal.overflow_sub-i
overflow_sub-i c = omega arith

pub offset_bounds-list-i-in-loop-i : goal.offset_bounds-list-i-in-loop-i
offset_bounds-list-i-in-loop-i c = omega arith

pub bounds-list-i-in-loop-i : goal.bounds-list-i-in-loop-i
bounds-list-i-in-loop-i c = omega arith

pub overflow_sub-result : goal.overflow_sub-result
overflow_sub-result c = omega arith

pub offset_bounds-list-list : goal.offset_bounds-list-list
offset_bounds-list-list c = omega arith

pub bounds-list-list : goal.bounds-list-list
bounds-list-list c = omega arith

-- `falls` goes over the list from its front: those counted and those left are all.
use mathlib.Core.Path.{◌≡◌, refl}
use Prim.Native.Nat.{◌+◌, ◌-◌}
use native.Mathlib.Numerals.{add-one}
use native.Mathlib.Omega.{arith}
use lib.ListN.{length}
use Rattle.wordlaws.proofs.FallLaws.{falls_none, falls_on}
use Rattle.testword.proofs.falls.Goals as goal

pub loop-i-init : goal.loop-i-init
loop-i-init c =
    let xs = c.args.list.now in
    let e : length xs - 0 ≡ length xs = omega arith in
    (omega arith, refl, omega arith, rw e (omega arith))

pub loop-i-preserved : goal.loop-i-preserved
loop-i-preserved c =
    let l = c in
    let xs = l.args.list.now in
    let i = l.loop-i.i in
    let e : length xs - (i + 1) ≡ length xs - i - 1 = omega arith in (
      omega arith,
      omega arith,
      omega (arith, c.fall-n.ensures),
      rw (e, add-one) (omega (arith, l.loop-i.invariant.3, c.fall-n.ensures, falls_on xs i (length xs - i) (omega arith))),
    )

pub returns : goal.returns
returns c =
    let l = c in
    let xs = l.args.list.now in
    let e : length xs - l.loop-i.i ≡ 0 = omega arith in
    omega (arith, rw e at l.loop-i.invariant.3, falls_none xs l.loop-i.i)

pub overflow_add-n : goal.overflow_add-n
overflow_add-n c = omega (arith, c.fall-n.ensures)

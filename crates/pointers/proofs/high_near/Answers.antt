-- `high_near` goes up from the guess to the number below one that was compared, or to the last.
use mathlib.Core.Path.{refl, sym, ◌∙◌}
use Prim.Native.Nat.{◌+◌, ◌-◌, ◌*◌, ◌^◌, ◌≤◌}
use native.Mathlib.Omega.{arith}
use borrow.Author.Tests.{leb-false}
use Rattle.readlaws.specs.Open.{number_at}
use Rattle.readlaws.proofs.NearLaws.{compares_lower, last_ends, below_ends}
use Rattle.pointers.proofs.high_near.Lts
use Rattle.pointers.proofs.high_near.Reads
use Rattle.pointers.proofs.high_near.Tie
use Rattle.pointers.proofs.high_near.Goals as goal

abbrev Else-not-precedes : Type 0
Else-not-precedes = Lts.Else1 Tie.the-claims Reads.Pre Reads.Post goal.the-invariant-loop-i goal.the-decreases-loop-i

pub overflow_add-i : goal.overflow_add-i
overflow_add-i c =
    let p = c.requires in
    record { fits = omega (arith, p.1, p.0.few) }

pub precedes-requires : goal.precedes-requires
precedes-requires c =
    let start = c.before.before.before.before in
    let a = start.args in
    compares_lower a.block.now a.last a.zeros a.rank start.requires.0 c.loop-i.i (omega arith)

pub returns-then-not-precedes : goal.returns-then-not-precedes
returns-then-not-precedes c =
    let at = c.loop-i in
    let a = c.args in
    let l =
    leb-false (number_at a.block.now at.i) (a.zeros * at.i + a.rank)
    (sym c.precedes.ensures ∙ c.if-not-precedes.true) in (
      omega (arith, at.invariant.0),
      below_ends a.block.now a.last a.zeros a.rank at.i (omega (arith, at.invariant.0)) (omega arith) l,
    )

-- the bound on steps and places
near : (c : Else-not-precedes) → c.loop-i.i ≤ 2 ^ 16
near c = omega (arith, c.requires.0.few)

pub overflow_add-i-in-loop-i : goal.overflow_add-i-in-loop-i
overflow_add-i-in-loop-i c = record { fits = omega (arith, near c.before, c.loop-i.invariant.2) }

pub overflow_mul-step : goal.overflow_mul-step
overflow_mul-step c = record { fits = omega (arith, near c.before, c.loop-i.invariant.2) }

pub loop-i-smaller : goal.loop-i-smaller
loop-i-smaller c = omega (arith, c.loop-i.invariant.1)

pub loop-i-preserved : goal.loop-i-preserved
loop-i-preserved c =
    let inv = c.loop-i.invariant in
    (omega (arith, inv.0), omega (arith, inv.1), omega (arith, inv.2))

pub returns : goal.returns
returns c =
    let start = c.before.before.before.before in
    let a = start.args in
    (start.requires.1, last_ends a.block.now a.last a.zeros a.rank a.last refl)

-- `number_before` halves: number `low` has at most `rank` ones before it, and the one after `high` has more.
use mathlib.Core.Path.{◌≡◌, sym, ◌∙◌}
use Prim.Native.Nat.{ℕ, ◌+◌, ◌-◌, ◌*◌, ◌/◌}
use native.Mathlib.Omega.{arith}
use borrow.Author.Tests.{leb-true, leb-false}
use Rattle.readlaws.specs.Open.{number_at}
use Rattle.readlaws.proofs.NearLaws.{compares_lower, below_ends}
use Rattle.pointers.proofs.number_before.Goals as goal

pub precedes-requires : goal.precedes-requires
precedes-requires c =
    let start = c.before.before.before.before.before in
    let at = c.loop-low in
    let a = start.args in
    compares_lower a.block.now a.last a.zeros a.rank start.requires.compares
    (at.high - (at.high - at.low) / 2) (omega (arith, at.invariant.ends.within))

pub loop-low-preserved-then-precedes : goal.loop-low-preserved-then-precedes
loop-low-preserved-then-precedes c =
    let at = c.loop-low in
    let a = c.args in
    let mid : ℕ = at.high - (at.high - at.low) / 2 in
    record {
      order = omega arith;
      before =
          leb-true (number_at a.block.now mid) (a.zeros * mid + a.rank)
          (sym c.precedes.ensures ∙ c.if-precedes.true);
      ends = at.invariant.ends;
    }

pub loop-low-preserved : goal.loop-low-preserved
loop-low-preserved c =
    let at = c.loop-low in
    let a = c.args in
    let mid : ℕ = at.high - (at.high - at.low) / 2 in
    let within = at.invariant.ends.within in
    let l =
    leb-false (number_at a.block.now mid) (a.zeros * mid + a.rank)
    (sym c.precedes.ensures ∙ c.if-precedes.false) in
    record {
      order = omega arith;
      before = at.invariant.before;
      ends = below_ends a.block.now a.last a.zeros a.rank mid (omega arith) (omega arith) l;
    }

pub returns : goal.returns
returns c =
    let at = c.loop-low in
    let e : at.high ≡ at.low = omega (arith, at.invariant.order) in
    record { before = at.invariant.before; ends = rw e at at.invariant.ends }

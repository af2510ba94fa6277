-- `pointer_ok` says whether a pointer stands where it should: each test is a field of `Stands`.
use mathlib.Core.Bool.{false≢true}
use mathlib.Core.Path.{ap, ◌∙◌, subst}
use Prim.Native.Nat.{ℕ, ◌+◌, ◌-◌, ◌*◌, ◌/◌, ◌%◌, ◌^◌}
use native.Mathlib.Omega.{arith}
use lib.Dec.{eqb}
use Rattle.rules.specs.Runs.{bit}
use Rattle.checklaws.specs.Check.{Tells, Stands}
use Rattle.checklaws.proofs.PointerLaws.{stands_tells}
use Rattle.checkparts.proofs.pointer_ok.Goals as goal

pub returns-then-p-base : goal.returns-then-p-base
returns-then-p-base c = (λ e. absurd (false≢true e), λ _ a. omega (arith, a.above, c.read_u32-p.ensures.0))

pub returns-then-base-p : goal.returns-then-base-p
returns-then-base-p c = (λ e. absurd (false≢true e), λ _ a. omega (arith, a.within, c.read_u32-p.ensures.0))

pub returns-then-x-j-ne0 : goal.returns-then-x-j-ne0
unfolding bit
returns-then-x-j-ne0 c =
    let r = c.before.before.before.before in
    let b = r.args in (
      λ e. absurd (false≢true e),
      λ _ a. c.if-x-j-ne0.true (ap (λ (p : ℕ). b.x / 2 ^ (p - b.base - 1) % 2) r.read_u32-p.ensures.0 ∙ a.zero_last),
    )

pub returns : goal.returns
returns c =
    let r = c.before.before.before.before.before in
    let a = r.args in
    let p = r.read_u32-p.result in
    let equal = eqb (256 * a.q + a.i + c.ones_below.result) p in
    subst (λ (q : ℕ). Tells equal (Stands a.x a.base a.i (256 * a.q) q)) r.read_u32-p.ensures.0
    (stands_tells a.x a.base a.i (256 * a.q) p c.ones_below.result (omega arith) (omega arith)
    c.if-x-j-ne0.false c.ones_below.ensures.0)

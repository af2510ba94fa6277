-- `pass_below` passes one element after the other: each but the last passed is below b, and the word at hand has the rest.
use mathlib.Core.Path.{◌≡◌, refl, ap, ◌∙◌}
use Prim.Native.Nat.{ℕ, ◌+◌, ◌-◌, ◌*◌, ◌^◌, ◌<◌}
use native.Mathlib.Omega.{arith}
use lib.Count.{count_trailing_zeros}
use Rattle.readlaws.specs.Open.{OneAt}
use Rattle.readlaws.proofs.ReadLaws.{open_reads}
use Rattle.span.specs.Walks.{PassedTo}
use Rattle.upto.proofs.OnesLaws.{ones_place, ones_drop, passing_on}
use Rattle.upto.proofs.pass_below.Lts
use Rattle.upto.proofs.pass_below.Reads
use Rattle.upto.proofs.pass_below.Tie
use Rattle.upto.proofs.pass_below.Goals as goal

abbrev After-skip_empty-one : Type 0
After-skip_empty-one = Lts.After-skip_empty Tie.the-claims Reads.Pre Reads.Post goal.the-invariant-loop-at goal.the-decreases-loop-at

abbrev After-walk_past-next : Type 0
After-walk_past-next = Lts.After-walk_past Tie.the-claims Reads.Pre Reads.Post goal.the-invariant-loop-at goal.the-decreases-loop-at

pub returns-then-to-w : goal.returns-then-to-w
returns-then-to-w c =
    let p = c.requires.0 in
    record { passing = p; onward = omega arith; all = λ h. omega (arith, p.inside, c.if-to-w.true) }

pub ones_ahead-ones-requires : goal.ones_ahead-ones-requires
ones_ahead-ones-requires c =
    let p = c.requires in
    (p.0.on, omega (arith, c.if-to-w.false, p.1))

pub loop-at-init : goal.loop-at-init
loop-at-init c =
    let p = c.requires in
    (p.0, omega arith, p.1, c.ones_ahead-ones.ensures)

pub skip_empty-one-requires : goal.skip_empty-one-requires
skip_empty-one-requires c =
    let l = c.loop-at.invariant in (
      l.0.on.opened,
      record { walking = l.3.walking; passed = refl },
      omega (arith, l.3.passed, l.2, c.loop-at-test.true),
    )

-- the element at hand is one to pass
more : (c : After-skip_empty-one)
    → c.loop-at.ones.rank < c.args.g.n
more c =
    let l = c.loop-at.invariant in
    omega (arith, l.3.passed, l.2, c.loop-at-test.true)

-- its one, and where that stands
one : (c : After-skip_empty-one)
    → OneAt c.args.block.now c.args.g.upper c.skip_empty-one.result.rank
    (64 * c.skip_empty-one.result.k + count_trailing_zeros 64 c.skip_empty-one.result.left)
    × (64 * c.skip_empty-one.result.k + count_trailing_zeros 64 c.skip_empty-one.result.left < 2 ^ 32)
one c =
    let a = c.args in
    let l = c.loop-at in
    ones_place a.block.now a.g l.invariant.0.on.opened l.ones.rank (more c) c.skip_empty-one.result
    c.skip_empty-one.ensures.0 c.skip_empty-one.ensures.1

-- one element more is passed
passed_one : (c : After-walk_past-next)
    → (c.loop-at.at.next < c.args.to) × (c.walk_past-next.result.next ≡ c.loop-at.at.next + 1)
    × (c.skip_empty-one.result.rank ≡ c.loop-at.at.next) × (c.args.to < 2 ^ 32)
passed_one c =
    let t = c in
    let a = t.args in
    let l = t.loop-at in
    let rank : t.skip_empty-one.result.rank ≡ l.at.next = t.skip_empty-one.ensures.0.passed ∙ l.invariant.3.passed in
    let r = open_reads a.block.now a.g l.invariant.0.on.opened in (
      t.loop-at-test.true,
      c.walk_past-next.ensures.at ∙ ap (λ (n : ℕ). n + 1) rank,
      rank,
      omega (arith, l.invariant.2, r.below, r.within),
    )

pub loop-at-preserved : goal.loop-at-preserved
loop-at-preserved c =
    let t = c in
    let a = t.args in
    let l = t.loop-at in
    let e = t.skip_empty-one.ensures in
    let p = passed_one c.before.before.before.before in
    let d : PassedTo a.block.now a.g (l.at.next + 1) c.walk_past-next.result =
    rw (← p.2) c.walk_past-next.ensures in
    let x =
    ones_drop a.block.now a.g l.invariant.0.on.opened l.ones.rank (more t.before.before.before.before.before.before.before) t.skip_empty-one.result e.0
    e.1 in (
      passing_on a.block.now a.g a.to a.b l.at c.walk_past-next.result l.invariant.0
          p.0 (t.if-at-b.true) d,
      omega (arith, l.invariant.1, d.at),
      l.invariant.2,
      record { walking = x.walking; passed = x.passed ∙ omega (arith, l.invariant.3.passed, d.at) },
    )

pub returns-else-at-b : goal.returns-else-at-b
returns-else-at-b c =
    let at = c.loop-at in
    record {
      passing = at.invariant.0;
      onward = at.invariant.1;
      all = λ h. absurd (omega (arith, h, c.if-at-b.false));
    }

pub returns-after-loop-at : goal.returns-after-loop-at
returns-after-loop-at c =
    let at = c.loop-at in
    record { passing = at.invariant.0; onward = at.invariant.1; all = λ h. omega (arith, at.invariant.0.inside, c.loop-at-test.false) }

pub overflow_mul-place : goal.overflow_mul-place
overflow_mul-place c = omega (arith, (one c.before.before).1)

pub overflow_cast-place : goal.overflow_cast-place
overflow_cast-place c = omega (arith, (one c.before.before.before).1)

pub overflow_add-place : goal.overflow_add-place
overflow_add-place c = omega (arith, (one c.before.before.before).1)

pub walk_past-next-requires : goal.walk_past-next-requires
walk_past-next-requires c = (c.loop-at.invariant.0.on.opened, (one c.before.before.before).0)

pub overflow_sub-rest : goal.overflow_sub-rest
overflow_sub-rest c = omega (arith, c.skip_empty-one.ensures.1)

pub overflow_add-rest : goal.overflow_add-rest
overflow_add-rest c = omega (arith, passed_one c.before.before.before.before)

pub loop-at-smaller : goal.loop-at-smaller
loop-at-smaller c = omega (arith, passed_one c.before.before.before.before)

-- `skip` passes words without zero number h, which is before the run's end; in its word it is found by its number.
use mathlib.Core.Path.{◌≡◌, refl, subst}
use Prim.Native.Nat.{ℕ, ◌+◌, ◌-◌, ◌*◌, ◌^◌, ◌<◌}
use native.Mathlib.Omega.{arith}
use lib.Count.{ones}
use Rattle.readlaws.proofs.ReadLaws.{open_reads}
use Rattle.walklaws.specs.declared.Ones.{Ones}
use Rattle.walklaws.specs.Walks.{RunIn, Skipping}
use Rattle.walklaws.proofs.OpenLaws.{words_few, open_run}
use Rattle.walklaws.proofs.WalkLaws.{rank_small, skipping_in, skipping_inside, skipping_next, skipped_at}
use Rattle.passing.proofs.skip.Invariants.{placed}
use Rattle.passing.proofs.skip.Lts
use Rattle.passing.proofs.skip.Reads
use Rattle.passing.proofs.skip.Tie
use Rattle.passing.proofs.skip.Goals as goal

abbrev Start : Type 0
Start = Lts.Start Tie.the-claims Reads.Pre Reads.Post goal.the-invariant-loop-counts goal.the-decreases-loop-counts

abbrev At-loop-counts : Type 0
At-loop-counts = Lts.At-loop Tie.the-claims Reads.Pre Reads.Post goal.the-invariant-loop-counts goal.the-decreases-loop-counts

abbrev In-loop-counts : Type 0
In-loop-counts = Lts.Then1 Tie.the-claims Reads.Pre Reads.Post goal.the-invariant-loop-counts goal.the-decreases-loop-counts

-- the upper run, whose words it passes
run : (c : Start) → RunIn c.args.s.now c.args.g
run c = open_run c.args.s.now c.args.g c.requires.0

-- bounds of the numbers at the start
record Bounds (h k rank : ℕ) : Type 0 where
  high : h < 2 ^ 32
  few : k < 2 ^ 20
  small : rank < 2 ^ 32
  short : 64 * k < h + rank

bounds : (c : Start) → Bounds c.args.h c.args.from.k c.args.from.rank
bounds c =
    let a = c.args in
    let r = open_reads a.s.now a.g c.requires.0 in
    record {
      high = omega (arith, c.requires.1);
      few = words_few a.s.now a.g (run c) a.from.k c.requires.2.within;
      small = rank_small a.s.now a.g (run c) a.h a.from c.requires.2;
      short = omega (arith, c.requires.2.short);
    }

pub loop-counts-init : goal.loop-counts-init
loop-counts-init c =
    let start = c in
    let a = start.args in
    let b = bounds start.before.before.before.before.before in
    let e : a.from.rank ≡ a.h + a.from.rank - 64 * a.from.k + 64 * a.from.k - a.h = omega (arith, b.short) in (
      subst (λ (r : ℕ). Skipping a.s.now a.g a.h (record { left = a.from.left; k = a.from.k; rank = r })) e
          start.requires.2,
      omega (arith, b.short),
      refl,
      c.running_counts-counts.ensures,
    )

-- and in the loop
abbrev by_loop : At-loop-counts → Start
by_loop c = c.before.before.before.before.before

abbrev at-loop : At-loop-counts → Ones
at-loop c = placed c.args.h c.loop-counts.left c.loop-counts.k c.loop-counts.wanted

few : (c : At-loop-counts) → c.loop-counts.k < 2 ^ 20
few c =
    let start = c in
    words_few start.args.s.now start.args.g (run start.before.before.before.before.before) c.loop-counts.k c.loop-counts.invariant.0.within

low : (c : At-loop-counts) → c.loop-counts.wanted < 2 ^ 34
low c =
    let start = c in
    let r = rank_small start.args.s.now start.args.g (run start.before.before.before.before.before) start.args.h (at-loop c) c.loop-counts.invariant.0 in
    omega (arith, r, (bounds start.before.before.before.before.before).high, c.loop-counts.invariant.1)

-- the zero is in a later word
through : (c : In-loop-counts)
    → let l = c in
    64 * l.loop-counts.k + 64 < l.args.h + ((at-loop l.before.before).rank + ones l.loop-counts.left)
through c =
    let w = c in
    omega (arith, w.loop-counts.invariant.1, w.with_ones.ensures, c.loop-counts-test.true)

pub next_word-at-requires : goal.next_word-at-requires
next_word-at-requires c =
    let t = c in
    let l = t in
    let start = l in (
      run start.before.before.before.before.before.before.before.before.before.before,
      skipping_inside start.args.s.now start.args.g (run start.before.before.before.before.before.before.before.before.before.before) start.args.h (at-loop l.before.before.before.before.before) l.loop-counts.invariant.0
          start.requires.1 (through t.before.before.before),
      omega (arith, l.loop-counts.invariant.2, start.requires.3),
    )

pub loop-counts-smaller : goal.loop-counts-smaller
loop-counts-smaller c =
    let n = c in
    let l = n in
    omega (arith, l.loop-counts.invariant.0.within, n.next_word-at.ensures.1)

pub loop-counts-preserved : goal.loop-counts-preserved
loop-counts-preserved c =
    let w = c in
    let p = w in
    let t = p in
    let l = t in
    let start = l in
    let x : Ones = w.next_word-at.result in
    let n = w.next_word-at.ensures in
    let g = through t.before.before.before.before.before in
    let h = l.loop-counts.invariant.1 in
    let e = p.with_ones-in-loop-counts.ensures in (
      skipping_next start.args.s.now start.args.g (run start.before.before.before.before.before.before.before.before.before.before.before.before) start.args.h (at-loop l.before.before.before.before.before.before.before) l.loop-counts.invariant.0
          start.requires.1 g (placed start.args.h x.left x.k x.rank) n.1 n.0
          (omega (arith, n.1, n.2, e, g, h)),
      omega (arith, n.1, n.2, e, g, h),
      omega (arith, l.loop-counts.invariant.2, n.1, n.3),
      c.running_counts-counts-in-loop-counts.ensures,
    )

pub to_zero-requires : goal.to_zero-requires
to_zero-requires c =
    let l = c in
    let start = l in (
      skipping_in start.args.s.now start.args.g (run start.before.before.before.before.before.before.before.before) start.args.h (at-loop l.before.before.before) l.loop-counts.invariant.0
          (omega (arith, l.loop-counts.invariant.1, c.with_ones.ensures, c.loop-counts-test.false)),
      l.loop-counts.invariant.3,
    )

pub returns : goal.returns
returns c =
    let l = c in
    let start = l in
    let z = c.to_zero.ensures in (
      skipped_at start.args.s.now start.args.g (run start.before.before.before.before.before.before.before.before.before) start.args.h (at-loop l.before.before.before.before) l.loop-counts.invariant.0 _ z,
      omega (arith, l.loop-counts.invariant.2, z.k_kept),
    )

pub overflow_add-wanted : goal.overflow_add-wanted
overflow_add-wanted c = let b = bounds c.before.before.before in omega (arith, b.high, b.small)

pub overflow_mul-wanted : goal.overflow_mul-wanted
overflow_mul-wanted c = omega (arith, (bounds c.before.before.before.before).few)

pub overflow_sub-wanted : goal.overflow_sub-wanted
overflow_sub-wanted c = omega (arith, (bounds c.before.before.before.before).short)

pub with_ones-requires : goal.with_ones-requires
with_ones-requires c = omega (arith, low c.before)

pub with_ones-requires-in-loop-counts : goal.with_ones-requires-in-loop-counts
with_ones-requires-in-loop-counts c = omega (arith, low c.before.before.before)

pub overflow_sub-with_ones : goal.overflow_sub-with_ones
overflow_sub-with_ones c = omega (arith, c.with_ones-in-loop-counts.ensures, c.with_ones.ensures, c.loop-counts-test.true)

pub overflow_mul-at : goal.overflow_mul-at
overflow_mul-at c = omega (arith, few c.before.before.before)

pub overflow_add-at : goal.overflow_add-at
overflow_add-at c = omega (arith, few c.before.before.before, low c.before.before.before)

pub overflow_sub-at : goal.overflow_sub-at
overflow_sub-at c = omega (arith, c.loop-counts.invariant.1)

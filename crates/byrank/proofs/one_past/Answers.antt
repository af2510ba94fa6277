-- `one_past` finds the one: x holds the ones of word k that are not passed, and of these and later ones `left` lie
-- before it.
use mathlib.Core.Path.{◌≡◌}
use Prim.Native.Nat.{ℕ, ◌+◌, ◌-◌, ◌*◌, ◌/◌, ◌≤◌, ◌<◌}
use native.Mathlib.Omega.{arith}
use lib.Count.{ones, ones-le}
use lib.ListN.{length}
use Rattle.rules.specs.Counts.{ones_below}
use Rattle.selectlaws.proofs.ByteLaws.{running_total}
use Rattle.readlaws.proofs.OneLaws.{onward_word, onward_start, onward_next, start_word}
use Rattle.byrank.proofs.one_past.Lts
use Rattle.byrank.proofs.one_past.Reads
use Rattle.byrank.proofs.one_past.Tie
use Rattle.byrank.proofs.one_past.Goals as goal

abbrev After-total-left : Type 0
After-total-left = Lts.After-total2 Tie.the-claims Reads.Pre Reads.Post goal.the-invariant-loop-left goal.the-decreases-loop-left

abbrev After-loop-left : Type 0
After-loop-left = Lts.Else1 Tie.the-claims Reads.Pre Reads.Post goal.the-invariant-loop-left goal.the-decreases-loop-left

pub overflow_sub-left : goal.overflow_sub-left
overflow_sub-left c = c.requires.ahead

pub run_word-requires : goal.run_word-requires
run_word-requires c =
    let a = c.args in
    omega (arith, start_word a.run.now a.start a.before a.rank c.requires)

pub loop-left-init : goal.loop-left-init
loop-left-init c =
    let word = c in
    let start = word in
    let a = start.args in
    let e : a.rank - (a.rank - a.before) ≡ a.before = omega (arith, start.requires.ahead) in (
      omega arith,
      rw e (onward_start a.run.now a.start a.before a.rank start.requires word.run_word.result
          c.from_bit-x.result word.run_word.ensures (omega arith) c.from_bit-x.ensures
          (omega arith)),
      c.running_counts-counts.ensures,
    )

-- the ones of the word that is left, and that the next word is one of the run's
left : (c : After-total-left)
    → let at = c.loop-left in
    let a = c.args in
    (c.total-left.result ≡ ones at.x) × (c.total-left.result ≤ at.left) × (at.k + 1 < length a.run.now / 8)
left c =
    let at = c.loop-left in
    let start = c in
    let a = start.args in
    let t = running_total at.x at.counts at.invariant.2 at.invariant.1.fits in
    let o : ones at.x ≤ at.left = omega (arith, t) in (
      omega (arith, t),
      omega (arith, t),
      onward_next a.run.now at.k at.x (a.rank - at.left) a.rank at.invariant.1
          (omega (arith, at.invariant.0)) start.requires.some,
    )

pub overflow_sub-left-in-loop-left : goal.overflow_sub-left-in-loop-left
overflow_sub-left-in-loop-left c = (left c.before).1

pub overflow_add-k : goal.overflow_add-k
overflow_add-k c = let l = left c.before in record { fits = omega arith }

pub run_word-x-requires : goal.run_word-x-requires
run_word-x-requires c = let l = left c.before in omega arith

pub loop-left-smaller : goal.loop-left-smaller
loop-left-smaller c = let l = left c.before.before.before in omega arith

pub loop-left-preserved : goal.loop-left-preserved
loop-left-preserved c =
    let at = c.loop-left in
    let a = c.args in
    let l = left c.before.before.before in
    let rest : ℕ = at.left - c.total-left.result in
    let e : a.rank - rest ≡ ones_below a.run.now 0 (64 * (at.k + 1)) =
    omega (arith, at.invariant.0, at.invariant.1.next, l.0, l.1) in (
      omega (arith, at.invariant.0),
      onward_word a.run.now (at.k + 1) c.run_word-x.result (a.rank - rest) l.2
          c.run_word-x.ensures (omega arith) e,
      c.running_counts-counts-in-loop-left.ensures,
    )

-- the one wanted is in the word
here : (c : After-loop-left) → c.loop-left.left < ones c.loop-left.x
here c =
    let at = c.loop-left in
    omega (arith, running_total at.x at.counts at.invariant.2 at.invariant.1.fits)

pub overflow_mul-result : goal.overflow_mul-result
overflow_mul-result c =
    let start = c in
    record { fits = omega (arith, c.loop-left.invariant.1.inside, start.requires.short) }

pub overflow_cast-left : goal.overflow_cast-left
overflow_cast-left c =
    let at = c.loop-left in
    record { fits = omega (arith, here c.before, ones-le 64 at.x at.invariant.1.fits) }

pub select_by-requires : goal.select_by-requires
select_by-requires c =
    (c.loop-left.invariant.2, here c.before)

pub overflow_add-result : goal.overflow_add-result
overflow_add-result c =
    let start = c in
    let within = c.loop-left.invariant.1.inside in
    record { fits = omega (arith, within, start.requires.short, c.select_by.ensures.1) }

pub returns : goal.returns
returns c =
    let at = c.loop-left in
    let a = c.args in
    let r : a.rank - at.left + at.left ≡ a.rank = omega (arith, at.invariant.0) in
    let o = rw r at (at.invariant.1.places at.left (here c.before.before)) in
    let e = c.select_by.ensures in
    (rw e.0 o, omega (arith, at.invariant.1.inside, e.1))

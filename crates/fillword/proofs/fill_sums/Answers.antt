-- `fill_sums` lays the sums of the counts, less 1, stretch by stretch: those of the counts passed are laid.
use mathlib.Core.Path.{refl}
use Prim.Native.Nat.{◌-◌}
use native.Mathlib.Omega.{arith}
use lib.ListN.{take}
use Rattle.rules.specs.Limits.{limit}
use Rattle.rules.specs.Term.{sums}
use Rattle.wordlaws.proofs.LayLaws.{stretch_follows, stretch_lays, sums_long, sums_rise, sums_all}
use Rattle.wordlaws.proofs.LayLaws.{tally_first, tally_left, tally_next, tally_part, tally_behind}
use Rattle.fillword.proofs.fill_sums.Goals as goal

pub begin-f-requires : goal.begin-f-requires
begin-f-requires c = c.requires.fitting

pub loop-at-init : goal.loop-at-init
loop-at-init c = (refl, tally_first 0 c.args.counts.now, λ before p. p)

pub next_sums-next-requires : goal.next_sums-next-requires
next_sums-next-requires c =
    let q = c.requires in
    let t = c.loop-at.invariant.1 in (
      t.within,
      omega (arith, q.count, q.fitting.below, q.fitting.within),
      q.counted,
      tally_left 0 c.args.counts.now c.loop-at.at t limit (omega (arith, q.reach, q.fitting.within)),
    )

pub lay-f-requires : goal.lay-f-requires
lay-f-requires c =
    let a = c.args in
    let cs = a.counts.now in
    let l = c.loop-at in
    let n = c.next_sums-next in
    record {
      xs = take l.at.done (sums 0 cs);
      before = a.room.now;
      partly = l.invariant.2 a.room.now c.begin-f.ensures;
      follows = rw (tally_part 0 cs l.at l.invariant.1 n.result n.new.part n.ensures)
          (stretch_follows a.g (sums 0 cs) (sums_long a.g cs a.room.now c.requires)
          (sums_rise a.g cs a.room.now c.requires) l.at.done 256);
    }

pub loop-at-preserved : goal.loop-at-preserved
loop-at-preserved c =
    let a = c.args in
    let cs = a.counts.now in
    let l = c.loop-at in
    let t = l.at in
    let n = c.next_sums-next in (
      omega arith,
      tally_next 0 cs t l.invariant.1 n.result n.new.part n.ensures,
      λ before p.
          rw (tally_behind 0 cs t l.invariant.1 n.result n.new.part n.ensures) at (stretch_lays a.g
          (sums 0 cs) (sums_long a.g cs a.room.now c.requires) (sums_rise a.g cs a.room.now c.requires)
          t.done 256 (take (n.result.done - t.done - 0) n.new.part)
          (tally_part 0 cs t l.invariant.1 n.result n.new.part n.ensures) l.f
          c.lay-f.result l.room c.lay-f.new.room before c.lay-f.ensures (l.invariant.2 before p)),
    )

pub finish-requires : goal.finish-requires
finish-requires c =
    let a = c.args in
    let l = c.loop-at in
    record {
      xs = sums 0 a.counts.now;
      before = a.room.now;
      partly = rw (sums_all 0 a.counts.now l.at.done (omega arith)) at (l.invariant.2 a.room.now c.begin-f.ensures);
      all = sums_long a.g a.counts.now a.room.now c.requires;
    }

pub returns : goal.returns
returns c =
    let a = c.args in
    let l = c.loop-at in
    c.finish.ensures (sums 0 a.counts.now) a.room.now
    (rw (sums_all 0 a.counts.now l.at.done (omega arith)) at (l.invariant.2 a.room.now c.begin-f.ensures))
    (sums_long a.g a.counts.now a.room.now c.requires)

pub overflow_sub-k : goal.overflow_sub-k
overflow_sub-k c = omega (arith, c.next_sums-next.ensures.done)

pub slice_bounds-lay-end : goal.slice_bounds-lay-end
slice_bounds-lay-end c = omega (arith, c.next_sums-next.ensures.done)

pub loop-at-smaller : goal.loop-at-smaller
loop-at-smaller c = omega (arith, c.next_sums-next.ensures)

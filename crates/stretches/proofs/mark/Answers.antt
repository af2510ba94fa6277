-- `mark` goes from page to page: the ends of the pages passed are marked, and no other position.
use mathlib.Core.Path.{refl, sym, subst}
use Prim.Native.Nat.{◌+◌, ◌<◌}
use native.Mathlib.Omega.{arith}
use lib.ListN.{drop}
use Rattle.wordlaws.specs.Stretch.{last_at, headed}
use Rattle.wordlaws.proofs.StretchLaws.{Marking, marking_none, marking_all, marking_rest}
use Rattle.wordlaws.proofs.StretchLaws.{marking_end, marking_over, marking_more}
use Rattle.stretches.proofs.mark.Goals as goal

pub loop-end-init : goal.loop-end-init
loop-end-init c =
    let a = c.args in
    let cs = a.counts.now in
    let p = c.requires in (
      refl,
      subst (λ l. Marking cs (last_at (headed a.start.end (drop a.start.page cs))) a.start.page a.start.end l)
          (sym p.0) (marking_none cs a.start.page a.start.end p.1 p.2 p.3),
    )

pub returns-then-page-counts : goal.returns-then-page-counts
returns-then-page-counts c =
    let l = c in
    let a = l.args in
    let cs = a.counts.now in
    let m = last_at (headed a.start.end (drop a.start.page cs)) in
    let k = l.loop-end.invariant.1 in
    record {
      marks = marking_end cs m l.loop-end.page l.loop-end.end l.loop-end.part k c.loop-end-test.true
          c.if-page-counts.true;
      rest = marking_over cs m l.loop-end.page l.loop-end.end l.loop-end.part k c.loop-end-test.true
          c.if-page-counts.true l.loop-end.end;
      some = k.some;
      small = omega (arith, c.loop-end-test.true);
    }

pub overflow_cast-end : goal.overflow_cast-end
overflow_cast-end c = omega (arith, c.shared_slice_known-1.given (c.loop-end.page + 1))

pub loop-end-preserved : goal.loop-end-preserved
loop-end-preserved c =
    let l = c in
    let a = l.args in
    let cs = a.counts.now in
    let k = l.loop-end.invariant.1 in
    let n = marking_more cs (last_at (headed a.start.end (drop a.start.page cs))) l.loop-end.page l.loop-end.end
    l.loop-end.part k c.loop-end-test.true (omega (arith, k.more, c.if-page-counts.false))
    l.requires.4 (omega (arith, c.shared_slice_known-1.given (l.loop-end.page + 1))) in
    (omega (arith, n.long, k.long), n)

pub returns : goal.returns
returns c =
    let l = c in
    let a = l.args in
    let cs = a.counts.now in
    let m = last_at (headed a.start.end (drop a.start.page cs)) in
    let k = l.loop-end.invariant.1 in
    let far : 256 < l.loop-end.end = omega arith in
    record {
      marks = marking_all cs m l.loop-end.page l.loop-end.end l.loop-end.part k far;
      rest = marking_rest cs m l.loop-end.page l.loop-end.end l.loop-end.part k far;
      some = omega arith;
      small = omega (arith, k.small);
    }

pub overflow_sub-part : goal.overflow_sub-part
overflow_sub-part c = omega (arith, c.loop-end.invariant.1.some)

pub offset_bounds-part-end : goal.offset_bounds-part-end
offset_bounds-part-end c = omega (arith, c.loop-end.invariant.1.some)

pub bounds-part-end : goal.bounds-part-end
bounds-part-end c = omega (arith, c.loop-end.invariant.1.some, c.loop-end.invariant.1.long)

pub overflow_add-end : goal.overflow_add-end
overflow_add-end c = omega (arith, c.shared_slice_known-1.given (c.loop-end.page + 1))

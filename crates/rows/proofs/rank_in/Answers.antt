-- `rank_in` takes the zeros before the element's bit from the bit, or the ones below it from the bitmap.
use native.Mathlib.Omega.{arith}
use Rattle.querylaws.specs.Lists.{part_at}
use Rattle.rows.proofs.FormRanks.{rank_opens, rank_map, rank_narrow, rank_runs}
use Rattle.rows.proofs.rank_in.Goals as goal

pub overflow_sub-page : goal.overflow_sub-page
overflow_sub-page c = omega (arith, c.requires.marked)

pub rank_at-requires : goal.rank_at-requires
unfolding part_at
rank_at-requires c =
    let from = c in
    let w = from in
    rw (from.number-from.ensures, c.number-to.ensures, c.shape_in.ensures)
    (rank_opens _ _ _ _ _ w.requires (rw w.number-w.ensures at from.if-w-eq-BITMAP.true))

pub returns-then-w-eq-BITMAP : goal.returns-then-w-eq-BITMAP
unfolding part_at
returns-then-w-eq-BITMAP c =
    let from = c in
    let w = from in
    rw (c.rank_at.ensures, from.number-from.ensures, c.number-to.ensures)
    (rank_map _ _ _ _ _ w.requires (rw w.number-w.ensures at from.if-w-eq-BITMAP.true))

pub overflow_shr-result : goal.overflow_shr-result
overflow_shr-result c =
    let w = c in
    rw w.number-w.ensures
    (rank_narrow _ _ _ _ _ w.requires (rw w.number-w.ensures at c.if-w-eq-BITMAP.false))

pub overflow_sub-result : goal.overflow_sub-result
overflow_sub-result c =
    let w = c in
    rw w.number-w.ensures
    (rank_runs _ _ _ _ _ w.requires (rw w.number-w.ensures at c.if-w-eq-BITMAP.false)).0

pub returns : goal.returns
returns c =
    let w = c in
    rw w.number-w.ensures
    (rank_runs _ _ _ _ _ w.requires (rw w.number-w.ensures at c.if-w-eq-BITMAP.false)).1

-- `totals` adds up the cursors: what is summed, and the total of those that are left, is the total.
use mathlib.Core.Path.{refl}
use native.Mathlib.Omega.{arith}
use Rattle.walklaws.specs.Cursors.{unused}
use Rattle.querylaws.specs.Queries.{seeks_of, looks_of}
use Rattle.querylaws.proofs.QueryLaws.{total_drop, total_none}
use Rattle.rows.proofs.totals.Goals as goal

pub loop-c-init : goal.loop-c-init
unfolding seeks_of looks_of
loop-c-init c = (omega arith, omega arith)

pub overflow_add-seeks : goal.overflow_add-seeks
unfolding unused
overflow_add-seeks c =
    omega (arith, total_drop (λ c. c.seeks) c.args.q.cursors c.loop-c.c-index (omega arith))

pub overflow_add-looks : goal.overflow_add-looks
unfolding unused
overflow_add-looks c =
    omega (arith, total_drop (λ c. c.looks) c.args.q.cursors c.loop-c.c-index (omega arith))

pub loop-c-preserved : goal.loop-c-preserved
unfolding unused
loop-c-preserved c =
    let cs = c.args.q.cursors in
    let i = c.loop-c.c-index in (
      omega (arith, total_drop (λ c. c.seeks) cs i (omega arith)),
      omega (arith, total_drop (λ c. c.looks) cs i (omega arith)),
    )

pub returns : goal.returns
returns c =
    let cs = c.args.q.cursors in
    let i = c.loop-c.c-index in (
      refl,
      omega (arith, total_none (λ c. c.seeks) cs i (omega arith)),
      omega (arith, total_none (λ c. c.looks) cs i (omega arith)),
    )

-- `batch` seeks list by list: what is left to be sought comes to the rule's next page, and what is left to be
-- listed, behind what was, to the batch. The measure: the seeks that may follow.
use Prim.Native.Nat.{◌-◌, ◌^◌}
use Rattle.querylaws.specs.Queries.{seeks_of}
use Rattle.querylaws.proofs.BatchLaws.{Amid}
use Rattle.query.proofs.batch.Given as goal

abbrev pub invariant-loop-q : goal.invariant-loop-q
invariant-loop-q l = Amid l.card l.shapes l.k l.initial.q l.initial.b l.initial.room l.q l.b l.i l.found l.room

abbrev pub decreases-loop-q : goal.decreases-loop-q
decreases-loop-q l = 2 ^ 28 - seeks_of l.q

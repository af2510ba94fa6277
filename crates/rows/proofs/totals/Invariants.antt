-- `totals` adds up the cursors: what is summed, and the total of those that are left, is the total.
use mathlib.Core.Path.{◌≡◌}
use Prim.Native.Nat.{◌+◌}
use lib.ListN.{drop}
use Rattle.querylaws.specs.Queries.{total, seeks_of, looks_of}
use Rattle.rows.proofs.totals.Given as goal

abbrev pub invariant-loop-c : goal.invariant-loop-c
invariant-loop-c l =
    (l.seeks + total (λ c. c.seeks) (drop l.c-index l.fn.q.cursors) ≡ seeks_of l.fn.q)
    × (l.looks + total (λ c. c.looks) (drop l.c-index l.fn.q.cursors) ≡ looks_of l.fn.q)

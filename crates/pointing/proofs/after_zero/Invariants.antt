-- `after_zero` drops the lowest ones of the complement: its one number j is number j - i once i are dropped.
use mathlib.Core.Path.{◌≡◌}
use Prim.Native.Nat.{◌-◌, ◌^◌, ◌≤◌}
use Rattle.fields.specs.Words.{place_of_one}
use Rattle.pointing.proofs.after_zero.Given as goal

abbrev pub invariant-loop : goal.invariant-loop
invariant-loop l = (l.counter ≤ l.j) × (place_of_one 64 l.zeros (l.j - l.counter) ≡ place_of_one 64 (2 ^ 64 - 1 - l.x) l.j)

abbrev pub decreases-loop : goal.decreases-loop
decreases-loop l = l.j - l.counter

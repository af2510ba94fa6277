-- `lay_near` lays elements one by one:
-- those from number `from` up to i follow what was laid before, and the count has grown by as many.
use mathlib.Core.Path.{◌≡◌}
use Prim.Native.Nat.{◌+◌, ◌-◌, ◌≤◌}
use lib.ListN.{length, drop}
use Rattle.filllaws.specs.Filling.{Laid}
use Rattle.laying.proofs.lay_near.Given as goal

abbrev pub invariant-loop-i : goal.invariant-loop-i
invariant-loop-i l =
    (l.from ≤ l.i) × (l.i ≤ length l.list) × (l.i-end ≡ length l.list) × (length l.room ≡ length l.initial.room)
    × (l.f.count ≡ l.initial.f.count + (l.i - l.from)) × Laid l.g l.initial.f (drop l.from l.list) (l.i - l.from) l.f l.initial.room l.room

abbrev pub decreases-loop-i : goal.decreases-loop-i
decreases-loop-i l = length l.list - l.i

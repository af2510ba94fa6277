-- `lay` lays elements word by word of the upper run: the first i follow what was laid before, and the count has grown by i.
use mathlib.Core.Path.{◌≡◌}
use Prim.Native.Nat.{◌+◌, ◌-◌, ◌≤◌}
use lib.ListN.{length}
use Rattle.filllaws.specs.Filling.{Laid}
use Rattle.laying.proofs.lay.Given as goal

abbrev pub invariant-loop-i : goal.invariant-loop-i
invariant-loop-i l =
    (l.i ≤ length l.list) × (length l.room ≡ length l.initial.room) × (l.f.count ≡ l.start.count + l.i) × Laid l.g l.start l.list l.i l.f l.initial.room l.room

abbrev pub decreases-loop-i : goal.decreases-loop-i
decreases-loop-i l = length l.list - l.i

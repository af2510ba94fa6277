-- `put_maps` stores the words one after the other: those up to k stand in the room, and the elements below bit 64 * k
-- are passed.
use mathlib.Core.Path.{◌≡◌}
use Prim.Native.Nat.{◌-◌, ◌*◌, ◌≤◌}
use lib.ListN.{length}
use Rattle.filllaws.specs.Filling.{Stored}
use Rattle.fillmap.specs.Mapping.{word_of, Parted}
use Rattle.fillmap.proofs.put_maps.Given as goal

abbrev pub invariant-loop-k : goal.invariant-loop-k
invariant-loop-k l =
    (l.first ≤ l.k) × (l.k ≤ l.last) × (length l.room ≡ length l.initial.room) × Parted l.list (64 * l.k) l.next
    × Stored 8 l.at (word_of l.list) l.first l.k l.initial.room l.room

abbrev pub decreases-loop-k : goal.decreases-loop-k
decreases-loop-k l = l.last - l.k

-- `put_pointers` writes the pointers: those up to number q stand in the room.
use mathlib.Core.Path.{◌≡◌}
use Prim.Native.Nat.{ℕ, ◌+◌, ◌-◌, ◌*◌, ◌/◌, ◌≤◌}
use lib.ListN.{length}
use Rattle.filllaws.specs.Filling.{Stored}
use Rattle.storing.proofs.put_pointers.Given as goal

abbrev pub pointer_at : ℕ → ℕ → ℕ
pointer_at count q = 256 * q + count

abbrev pub invariant-loop-q : goal.invariant-loop-q
invariant-loop-q l =
    (l.next ≤ l.q) × (l.q ≤ l.end) × (l.end ≡ l.high / 256 + 1) × (length l.room ≡ length l.initial.room)
    × Stored 4 9 (pointer_at l.count) l.next l.q l.initial.room l.room

abbrev pub decreases-loop-q : goal.decreases-loop-q
decreases-loop-q l = l.end - l.q

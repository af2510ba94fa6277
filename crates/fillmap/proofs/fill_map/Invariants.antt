-- `fill_map` writes the header, and then four words and their number at a time: those up to number q stand in the room,
-- and the elements below bit 256 * q are passed.
use mathlib.Core.Path.{◌≡◌}
use mathlib.Core.List.{List}
use Prim.Native.Nat.{ℕ, ◌-◌, ◌*◌, ◌/◌, ◌≤◌}
use lib.ListN.{length}
use Rattle.rules.specs.List.{bitmap}
use Rattle.filllaws.specs.Filling.{FramedAs}
use Rattle.fillmap.specs.Mapping.{Parted, Mapped}
use Rattle.fillmap.proofs.fill_map.Given as goal

abbrev pub invariant-loop-q : goal.invariant-loop-q
invariant-loop-q l =
    (l.q ≤ l.g.u / 256) × (l.q-end ≡ l.g.u / 256) × (length l.room ≡ length l.initial.room) × Parted l.list (64 * (4 * l.q)) l.next
    × ((before : List ℕ) → FramedAs bitmap l.g before l.initial.room → Mapped l.g l.list before l.room l.q)

abbrev pub decreases-loop-q : goal.decreases-loop-q
decreases-loop-q l = l.q-end - l.q

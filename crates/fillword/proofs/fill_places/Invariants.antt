-- `fill_places` lays the elements stretch by stretch: those of the positions passed are laid.
use mathlib.Core.Path.{◌≡◌}
use mathlib.Core.List.{List, []}
use Prim.Native.Nat.{ℕ, ◌-◌}
use lib.ListN.{length, take}
use Rattle.rules.specs.Term.{placed}
use Rattle.filllaws.specs.Filling.{Partly}
use Rattle.wordlaws.specs.Stretch.{SpotAt}
use Rattle.fillword.proofs.fill_places.Given as goal

abbrev pub invariant-loop-at : goal.invariant-loop-at
invariant-loop-at l =
    (length l.room ≡ length l.initial.room) × SpotAt 0 l.g.u l.counts l.positions l.at
    × ((before : List ℕ) → Partly l.g [] l.initial.f before l.initial.room
    → Partly l.g (take l.at.done (placed 0 l.counts l.positions)) l.f before l.room)

abbrev pub decreases-loop-at : goal.decreases-loop-at
decreases-loop-at l = length l.positions - l.at.done

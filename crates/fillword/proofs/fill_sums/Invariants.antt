-- `fill_sums` lays the sums of the counts, less 1, stretch by stretch: those of the counts passed are laid.
use mathlib.Core.Path.{◌≡◌}
use mathlib.Core.List.{List, []}
use Prim.Native.Nat.{ℕ, ◌-◌}
use lib.ListN.{length, take}
use Rattle.rules.specs.Term.{sums}
use Rattle.filllaws.specs.Filling.{Partly}
use Rattle.wordlaws.proofs.LayLaws.{TallyAt}
use Rattle.fillword.proofs.fill_sums.Given as goal

abbrev pub invariant-loop-at : goal.invariant-loop-at
invariant-loop-at l =
    (length l.room ≡ length l.initial.room) × TallyAt 0 l.counts l.at
    × ((before : List ℕ) → Partly l.g [] l.initial.f before l.initial.room → Partly l.g (take l.at.done (sums 0 l.counts)) l.f before l.room)

abbrev pub decreases-loop-at : goal.decreases-loop-at
decreases-loop-at l = length l.counts - l.at.done

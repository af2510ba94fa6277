-- `add_sums` lays the sums of the counts, less 1, stretch by stretch: those of the counts passed are laid.
use mathlib.Core.Path.{◌≡◌}
use Prim.Native.Nat.{◌-◌}
use lib.ListN.{length, take}
use Rattle.rules.specs.Term.{sums}
use Rattle.rules.specs.InPlace.{added}
use Rattle.wordlaws.proofs.LayLaws.{TallyAt}
use Rattle.addlists.proofs.add_sums.Given as goal

abbrev pub invariant-loop-at : goal.invariant-loop-at
invariant-loop-at l =
    (length l.block ≡ length l.initial.block) × TallyAt l.before l.counts l.at
    × (l.block ≡ added l.g.u l.g.n l.from (take l.at.done (sums l.before l.counts)) l.initial.block)

abbrev pub decreases-loop-at : goal.decreases-loop-at
decreases-loop-at l = length l.counts - l.at.done

-- `add_places` lays the elements stretch by stretch: those of the positions passed are laid.
use mathlib.Core.Path.{◌≡◌}
use Prim.Native.Nat.{◌-◌}
use lib.ListN.{length, take}
use Rattle.rules.specs.Term.{placed}
use Rattle.rules.specs.InPlace.{added}
use Rattle.wordlaws.specs.Stretch.{SpotAt}
use Rattle.addlists.proofs.add_places.Given as goal

abbrev pub invariant-loop-at : goal.invariant-loop-at
invariant-loop-at l =
    (length l.block ≡ length l.initial.block) × SpotAt l.start l.g.u l.counts l.positions l.at
    × (l.block ≡ added l.g.u l.g.n l.from (take l.at.done (placed l.start l.counts l.positions)) l.initial.block)

abbrev pub decreases-loop-at : goal.decreases-loop-at
decreases-loop-at l = length l.positions - l.at.done

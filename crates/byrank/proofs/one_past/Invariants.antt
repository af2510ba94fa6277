-- `one_past` finds the one: x holds the ones of word k that are not passed, and of these and later ones `left` lie
-- before it.
use mathlib.Core.Path.{◌≡◌}
use Prim.Native.Nat.{◌-◌, ◌/◌, ◌≤◌}
use lib.ListN.{length}
use Rattle.selectlaws.specs.ByteCounts.{running_ones}
use Rattle.readlaws.proofs.OneLaws.{Onward}
use Rattle.byrank.proofs.one_past.Given as goal

abbrev pub invariant-loop-left : goal.invariant-loop-left
invariant-loop-left l =
    (l.left ≤ l.rank) × Onward l.run l.k l.x (l.rank - l.left) × (l.counts ≡ running_ones 8 0 l.x)

abbrev pub decreases-loop-left : goal.decreases-loop-left
decreases-loop-left l = length l.run / 8 - l.k

-- `mark` goes from page to page: the ends of the pages passed are marked, and no other position.
use mathlib.Core.Path.{◌≡◌}
use Prim.Native.Nat.{◌-◌}
use lib.ListN.{length, drop}
use Rattle.wordlaws.specs.Stretch.{last_at, headed}
use Rattle.wordlaws.proofs.StretchLaws.{Marking}
use Rattle.stretches.proofs.mark.Given as goal

abbrev pub invariant-loop-end : goal.invariant-loop-end
invariant-loop-end l =
    (length l.part ≡ length l.initial.part) × Marking l.counts (last_at (headed l.initial.end (drop l.initial.page l.counts))) l.page l.end l.part

abbrev pub decreases-loop-end : goal.decreases-loop-end
decreases-loop-end l = length l.counts - l.page

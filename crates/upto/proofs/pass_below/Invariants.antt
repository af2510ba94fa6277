-- `pass_below` passes one element after the other: each but the last passed is below b, and the word at hand has the rest.
use Prim.Native.Nat.{◌-◌, ◌≤◌}
use Rattle.upto.specs.Bounds.{Passing, OnesLeft}
use Rattle.upto.proofs.pass_below.Given as goal

abbrev pub invariant-loop-at : goal.invariant-loop-at
invariant-loop-at l =
    Passing l.block l.g l.to l.b l.at × (l.initial.at.next ≤ l.at.next) × (l.to ≤ l.g.n) × OnesLeft l.block l.g l.at.next l.ones

abbrev pub decreases-loop-at : goal.decreases-loop-at
decreases-loop-at l = l.to - l.at.next

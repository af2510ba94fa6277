-- `low_near` goes down from the guess to a number that was compared, or to number 0.
use Prim.Native.Nat.{◌≤◌, ◌<◌}
use Rattle.pointers.proofs.low_near.Given as goal

abbrev pub invariant-loop-guess : goal.invariant-loop-guess
invariant-loop-guess l = (l.i ≤ l.guess) × (0 < l.step)

abbrev pub decreases-loop-guess : goal.decreases-loop-guess
decreases-loop-guess l = l.i

-- `high_near` goes up from the guess to the number below one that was compared, or to the last.
use Prim.Native.Nat.{◌+◌, ◌-◌, ◌≤◌, ◌<◌}
use Rattle.pointers.proofs.high_near.Given as goal

abbrev pub invariant-loop-i : goal.invariant-loop-i
invariant-loop-i l = (l.guess < l.i) × (0 < l.step) × (l.step ≤ l.i)

abbrev pub decreases-loop-i : goal.decreases-loop-i
decreases-loop-i l = l.last + 1 - l.i

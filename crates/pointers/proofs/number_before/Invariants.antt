-- `number_before` halves: number `low` has at most `rank` ones before it, and the one after `high` has more.
use Prim.Native.Nat.{◌-◌}
use Rattle.readlaws.specs.Open.{Among}
use Rattle.pointers.proofs.number_before.Given as goal

abbrev pub invariant-loop-low : goal.invariant-loop-low
invariant-loop-low l = Among l.block l.last l.zeros l.rank l.low l.high

abbrev pub decreases-loop-low : goal.decreases-loop-low
decreases-loop-low l = l.high - l.low

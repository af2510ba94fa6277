-- `skip_empty` passes words with no one left, of which none is the run's last.
use Prim.Native.Nat.{◌-◌}
use Rattle.rules.specs.Runs.{words_for}
use Rattle.upto.specs.Bounds.{OnesLeft}
use Rattle.upto.proofs.skip_empty.Given as goal

abbrev pub invariant-loop-at : goal.invariant-loop-at
invariant-loop-at l = OnesLeft l.block l.g l.initial.at.rank l.at

abbrev pub decreases-loop-at : goal.decreases-loop-at
decreases-loop-at l = words_for l.g.bits - l.at.k

-- `land` passes elements below b one by one, and ends at the first that is not or behind the last.
use Prim.Native.Nat.{◌-◌}
use Rattle.walklaws.specs.Walks.{Before, Paid, Walking}
use Rattle.landing.proofs.land.Given as goal

abbrev pub invariant-loop-at : goal.invariant-loop-at
invariant-loop-at l = Walking l.s l.g l.at × Before l.s l.b l.at.rank × Paid l.initial.at.k l.initial.looks l.at.k l.looks

abbrev pub decreases-loop-at : goal.decreases-loop-at
decreases-loop-at l = l.g.n - l.at.rank

-- `counts_fit` takes the counts from n one by one: what is left of n is to be the sum of those that are left.
use mathlib.Core.Path.{◌≡◌}
use Prim.Native.Nat.{◌≤◌}
use lib.ListN.{drop}
use Rattle.wordlaws.specs.Reach.{summing}
use Rattle.testword.proofs.counts_fit.Given as goal

abbrev pub invariant-loop-count : goal.invariant-loop-count
invariant-loop-count l = (l.left ≤ l.n) × (summing l.n l.counts ≡ summing l.left (drop l.count-index l.counts))

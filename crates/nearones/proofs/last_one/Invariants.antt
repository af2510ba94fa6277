-- `last_one` finds the last one: the words above word k have none.
use mathlib.Core.Path.{◌≡◌}
use Prim.Native.Nat.{◌+◌, ◌-◌, ◌*◌, ◌/◌, ◌^◌, ◌<◌}
use lib.ListN.{length}
use Rattle.rules.specs.Runs.{run_word}
use Rattle.rules.specs.Counts.{ones_below}
use Rattle.readlaws.specs.Open.{ones_in}
use Rattle.nearones.proofs.last_one.Given as goal

abbrev pub invariant-loop-x : goal.invariant-loop-x
invariant-loop-x l =
    (l.k < length l.run / 8) × (l.x ≡ run_word l.run 0 l.k) × (l.x < 2 ^ 64) × (ones_below l.run 0 (64 * (l.k + 1)) ≡ ones_in l.run)

abbrev pub decreases-loop-x : goal.decreases-loop-x
decreases-loop-x l = l.k

-- `skip` passes words without zero number h, which is before the run's end; in its word it is found by its number.
use mathlib.Core.Path.{◌≡◌}
use Prim.Native.Nat.{ℕ, ◌+◌, ◌-◌, ◌*◌, ◌≤◌}
use Rattle.rules.specs.Runs.{words_for}
use Rattle.selectlaws.specs.ByteCounts.{running_ones}
use Rattle.walklaws.specs.declared.Ones.{Ones}
use Rattle.walklaws.specs.Walks.{Skipping, Paid}
use Rattle.passing.proofs.skip.Given as goal

-- what the walk has before it, by the number of the wanted zero
abbrev pub placed : ℕ → ℕ → ℕ → ℕ → Ones
placed h left k wanted = record { left = left; k = k; rank = wanted + 64 * k - h }

abbrev pub invariant-loop-counts : goal.invariant-loop-counts
invariant-loop-counts l =
    Skipping l.s l.g l.h (placed l.h l.left l.k l.wanted) × (l.h ≤ l.wanted + 64 * l.k) × Paid l.initial.k l.initial.looks l.k l.looks
    × (l.counts ≡ running_ones 8 0 l.left)

abbrev pub decreases-loop-counts : goal.decreases-loop-counts
decreases-loop-counts l = words_for l.g.bits - l.k

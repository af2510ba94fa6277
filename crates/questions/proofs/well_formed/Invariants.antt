-- `well_formed` goes from question to question. The loop's invariant: what is left says what the whole says.
use mathlib.Core.Path.{◌≡◌}
use Prim.Native.Nat.{◌-◌, ◌≤◌}
use lib.ListN.{length, drop}
use Rattle.questions.specs.Formed.{formed}
use Rattle.questions.proofs.well_formed.Given as goal

abbrev pub invariant-loop-at : goal.invariant-loop-at
invariant-loop-at l = (l.at ≤ length l.questions) × (formed l.t (drop l.at l.questions) ≡ formed l.t l.questions)

abbrev pub decreases-loop-at : goal.decreases-loop-at
decreases-loop-at l = length l.questions - l.at

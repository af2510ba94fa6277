-- `to_one` keeps the walk: the words that it passes have no one left, and each is one look.
use mathlib.Core.Path.{◌≡◌}
use Prim.Native.Nat.{◌-◌, ◌<◌}
use Rattle.rules.specs.Runs.{words_for}
use Rattle.walklaws.specs.Walks.{Walking, Paid}
use Rattle.looks.proofs.to_one.Given as goal

abbrev pub invariant-loop-at : goal.invariant-loop-at
invariant-loop-at l =
    (l.at.rank < l.g.n) × Walking l.s l.g l.at × (l.at.rank ≡ l.initial.at.rank) × Paid l.initial.at.k l.initial.looks l.at.k l.looks

abbrev pub decreases-loop-at : goal.decreases-loop-at
decreases-loop-at l = words_for l.g.bits - l.at.k

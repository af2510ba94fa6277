-- `find_behind` walks on from the word of bit b; every word that it passes has no one left.
use Prim.Native.Nat.{◌-◌}
use Rattle.rules.specs.Runs.{words_for}
use Rattle.walklaws.specs.Walks.{Paid, Walking}
use Rattle.mapseek.proofs.MapLaws.{map_walk}
use Rattle.mapseek.proofs.find_behind.Given as goal

abbrev pub invariant-loop-left : goal.invariant-loop-left
invariant-loop-left l = Walking l.s l.g (map_walk l.s l.g l.b l.left l.k) × Paid l.initial.k l.initial.looks l.k l.looks

abbrev pub decreases-loop-left : goal.decreases-loop-left
decreases-loop-left l = words_for l.g.bits - l.k

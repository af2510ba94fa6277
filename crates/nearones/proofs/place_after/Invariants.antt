-- `place_after` passes words without a one: none lies between the start and the first that is left of the word.
use Prim.Native.Nat.{◌-◌, ◌^◌, ◌<◌}
use lib.Count.{count_trailing_zeros}
use Rattle.rules.specs.Runs.{words_for}
use Rattle.readlaws.proofs.PartLaws.{Reached}
use Rattle.nearones.proofs.place_after.Given as goal

abbrev pub invariant-loop-left : goal.invariant-loop-left
invariant-loop-left l = (l.left < 2 ^ 64) × Reached l.block l.g l.start l.k (count_trailing_zeros 64 l.left)

abbrev pub decreases-loop-left : goal.decreases-loop-left
decreases-loop-left l = words_for l.g.bits - l.k

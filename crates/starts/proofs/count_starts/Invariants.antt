-- `count_starts` tries the words in turn. The loop's invariant: `Trying`.
use Prim.Native.Nat.{◌-◌}
use Rattle.triallaws.specs.Asked.{TryingIn}
use Rattle.triallaws.proofs.TrialLaws.{left}
use Rattle.starts.proofs.count_starts.Given as goal

abbrev pub invariant-loop-next : goal.invariant-loop-next
invariant-loop-next l = TryingIn l.card l.terms l.lists (l.turn.mark - 1) l.at l.words

abbrev pub decreases-loop-next : goal.decreases-loop-next
decreases-loop-next l = left l.at

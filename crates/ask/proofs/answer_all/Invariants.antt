-- `answer_all` answers one question after the other. The loop's invariant: the run is under way, and comes out as the whole does.
use Prim.Native.Nat.{◌-◌}
use lib.ListN.{length}
use Rattle.replies.specs.Running.{Under}
use Rattle.ask.proofs.answer_all.Given as goal

abbrev pub invariant-loop-run : goal.invariant-loop-run
invariant-loop-run l =
    Under l.card l.questions l.initial.room l.room l.run.at l.run.answered l.run.used

abbrev pub decreases-loop-run : goal.decreases-loop-run
decreases-loop-run l = length l.questions - l.run.at

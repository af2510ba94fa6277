-- `stopped` tells 9, and what was answered before.
use Rattle.replies.proofs.stopped.Goals as goal

pub returns : goal.returns
returns c s qs room₀ after to t = t.turn

-- `ended` tells that all is answered.
use Rattle.replies.proofs.TurnLaws.{under_end}
use Rattle.replies.proofs.ended.Goals as goal

pub returns : goal.returns
returns c s qs room₀ room =
    let run = c.args.run in
    under_end s qs room₀ room run.at run.answered run.used

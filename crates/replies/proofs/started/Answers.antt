-- `started` begins before the first question, with none answered.
use Rattle.replies.proofs.TurnLaws.{under_start}
use Rattle.replies.proofs.started.Goals as goal

pub returns : goal.returns
returns c = under_start

-- `advance` counts the postings in, and keeps what was announced.
use Rattle.sessionlaws.specs.Follow.{stepped}
use Rattle.following.proofs.advance.Goals as goal

pub returns : goal.returns
unfolding stepped
returns c = rw c.behind.ensures

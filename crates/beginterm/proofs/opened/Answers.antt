-- `opened` makes the session with nothing laid.
use Rattle.std.proofs.Common.{rules}
use Rattle.rules.specs.Stream.{opened}
use Rattle.beginterm.proofs.opened.Goals as goal

pub returns : goal.returns
unfolding opened
returns c = search rules

-- `over_limit` tests the questions where the card is not too long.
use borrow.Author.Tests.{lt-ltb, le-ltb}
use lib.ListN.{length}
use Rattle.rules.specs.Program.{file_limit}
use Rattle.files.proofs.over_limit.Goals as goal

pub returns-then-card-gt-FILE_LIMIT : goal.returns-then-card-gt-FILE_LIMIT
returns-then-card-gt-FILE_LIMIT c = rw (lt-ltb file_limit (length c.args.card.now) c.if-card-gt-FILE_LIMIT.true)

pub returns-else-card-gt-FILE_LIMIT : goal.returns-else-card-gt-FILE_LIMIT
returns-else-card-gt-FILE_LIMIT c = rw (le-ltb file_limit (length c.args.card.now) c.if-card-gt-FILE_LIMIT.false)

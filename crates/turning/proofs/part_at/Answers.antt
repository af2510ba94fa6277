use Rattle.querylaws.specs.Lists.{part_at}
use Rattle.turning.proofs.part_at.Goals as goal

pub returns : goal.returns
unfolding part_at
returns c = rw (c.number-from.ensures, c.number-to.ensures)

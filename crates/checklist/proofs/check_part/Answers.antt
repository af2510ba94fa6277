-- `check_part` is the check of a list that may be a bitmap.
use Rattle.rules.specs.ReadList.{part_refusal}
use Rattle.checklist.proofs.check_part.Goals as goal

pub returns : goal.returns
unfolding part_refusal
returns c = c.check_in.ensures

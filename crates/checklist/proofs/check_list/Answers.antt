-- `check_list` is the check of a list whose one version is that of two runs.
use Rattle.rules.specs.ReadList.{list_refusal}
use Rattle.checklist.proofs.check_list.Goals as goal

pub returns : goal.returns
unfolding list_refusal
returns c = c.check_in.ensures

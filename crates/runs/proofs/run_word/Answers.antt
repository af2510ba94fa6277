use Rattle.rules.specs.Runs.{run_word}
use Rattle.runs.proofs.run_word.Goals as goal

pub returns : goal.returns
unfolding run_word
returns c = c.read_u64.ensures

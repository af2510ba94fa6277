-- What `put_postings` answers, with its number.
use mathlib.Core.Path.{ap, ◌∙◌}
use Rattle.telling.specs.Told.{told_stream}
use Rattle.jundefola.proofs.jf_put_postings.Goals as goal

pub returns : goal.returns
returns c = c.from.ensures c.put_postings.new.room ∙ ap told_stream c.put_postings.ensures

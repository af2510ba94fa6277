-- What `end_term` answers, with its number.
use mathlib.Core.Path.{ap, ◌∙◌}
use Rattle.telling.specs.Told.{told_stream}
use Rattle.jundefola.proofs.jf_end_term.Goals as goal

pub returns : goal.returns
returns c = c.from.ensures c.end_term.new.room ∙ ap told_stream c.end_term.ensures

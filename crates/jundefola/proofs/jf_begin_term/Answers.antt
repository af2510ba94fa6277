-- What `begin_term` answers, with its number.
use mathlib.Core.Path.{ap, ◌∙◌}
use Rattle.telling.specs.Told.{told_stream}
use Rattle.jundefola.proofs.jf_begin_term.Goals as goal

pub returns : goal.returns
returns c = c.from.ensures c.begin_term.new.room ∙ ap told_stream c.begin_term.ensures

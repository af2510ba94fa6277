-- What `write_term` answers, with its number.
use mathlib.Core.Path.{ap, ◌∙◌}
use Rattle.telling.specs.Told.{told}
use Rattle.jundefola.proofs.jf_write_term.Goals as goal

pub returns : goal.returns
returns c = c.from.ensures c.write_term.new.room ∙ ap told c.write_term.ensures

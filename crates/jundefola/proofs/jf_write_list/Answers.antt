-- What `write_list` answers, with its number.
use mathlib.Core.Path.{ap, ◌∙◌}
use Rattle.telling.specs.Told.{told}
use Rattle.jundefola.proofs.jf_write_list.Goals as goal

pub returns : goal.returns
returns c = c.from.ensures c.write_list.new.room ∙ ap told c.write_list.ensures

-- What `close_index` answers, with its number.
use mathlib.Core.Path.{ap, ◌∙◌}
use Rattle.telling.specs.Told.{told}
use Rattle.jundefola.proofs.jf_close_index.Goals as goal

pub returns : goal.returns
returns c = c.from.ensures c.close_index.new.buffer ∙ ap told c.close_index.ensures

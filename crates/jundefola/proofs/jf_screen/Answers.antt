-- What `screen` answers, with its number.
use mathlib.Core.Path.{ap, ◌∙◌}
use Rattle.telling.specs.Told.{seen}
use Rattle.jundefola.proofs.jf_screen.Goals as goal

pub returns : goal.returns
returns c = c.from.ensures c.screen.new.pages c.screen.new.counts ∙ ap seen c.screen.ensures

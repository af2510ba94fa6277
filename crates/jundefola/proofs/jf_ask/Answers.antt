-- What `ask` answers, with its number.
use mathlib.Core.Path.{ap, ◌∙◌}
use Rattle.telling.specs.Told.{heard}
use Rattle.jundefola.proofs.jf_ask.Goals as goal

pub returns : goal.returns
returns c = c.from.ensures c.ask.new.room ∙ ap heard c.ask.ensures

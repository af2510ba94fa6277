-- `further` goes on where the question ends.
use mathlib.Core.Path.{refl}
use Rattle.replies.proofs.further.Goals as goal

pub returns : goal.returns
returns c = record { behind = refl; under = λ s qs room₀ after t. t.turn }

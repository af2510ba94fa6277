-- `new` gives the cursor that no seek has moved.
use mathlib.Core.Path.{refl}
use Rattle.walklaws.specs.Cursors.{unused}
use Rattle.walklaws.proofs.Cursor.new.Goals as goal

pub returns : goal.returns
unfolding unused
returns c = refl

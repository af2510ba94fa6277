-- `put` copies the answer if there is room for it: it is laid at the room's front.
use mathlib.Core.Path.{refl}
use native.Mathlib.Omega.{arith}
use Rattle.rules.specs.Write.{laid}
use Rattle.replies.proofs.put.Goals as goal

pub returns : goal.returns
unfolding laid
returns c = (refl, omega arith, rw c.copy_from_slice.ensures.after)

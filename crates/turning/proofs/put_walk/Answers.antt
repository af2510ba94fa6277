use native.Mathlib.Omega.{arith}
use lib.ListN.{length-set}
use Rattle.turning.proofs.put_walk.Goals as goal

pub bounds-words-at-2 : goal.bounds-words-at-2
bounds-words-at-2 c = rw length-set (omega (arith, c.requires))

pub bounds-words-at-3 : goal.bounds-words-at-3
bounds-words-at-3 c = simp length-set (omega (arith, c.requires))

-- `ones_of` adds the ones of word after word. The loop's invariant: those of the words passed.
use mathlib.Core.Path.{◌≡◌}
use Prim.Native.Nat.{◌+◌, ◌*◌}
use Rattle.rules.specs.Counts.{ones_below}
use Rattle.runs.proofs.ones_of.Given as goal

abbrev pub invariant-loop-k : goal.invariant-loop-k
invariant-loop-k l = ones_below l.s l.at (64 * l.from) + l.i ≡ ones_below l.s l.at (64 * l.k)

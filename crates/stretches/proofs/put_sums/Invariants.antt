-- `put_sums` adds the counts up one by one: the first i sums stand in the part.
use mathlib.Core.Path.{◌≡◌}
use Prim.Native.Nat.{◌+◌}
use lib.ListN.{length, take}
use Rattle.rules.specs.Term.{total, sums}
use Rattle.stretches.proofs.put_sums.Given as goal

abbrev pub invariant-loop-i : goal.invariant-loop-i
invariant-loop-i l =
    (length l.part ≡ length l.initial.part)
    × (l.sum ≡ l.before + total (take l.i l.counts)) × (take l.i l.part ≡ take l.i (sums l.before l.counts))

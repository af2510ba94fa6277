-- `rises` compares each element with the one before it: what is left to test gives what all of it gives, unless one falls.
use mathlib.Core.Path.{◌≡◌}
use Prim.Native.Nat.{◌-◌, ◌≤◌}
use lib.ListN.{length}
use Rattle.filllaws.proofs.RiseLaws.{Compared}
use Rattle.rising.proofs.rises.Given as goal

abbrev pub invariant-loop-i : goal.invariant-loop-i
invariant-loop-i l =
    (1 ≤ l.i) × (l.i ≤ length l.list) × (l.i-end ≡ length l.list) × Compared l.u l.list l.falls l.i

abbrev pub decreases-loop-i : goal.decreases-loop-i
decreases-loop-i l = length l.list - l.i

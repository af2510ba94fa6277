-- `falls` goes over the list from its front: those counted and those left are all.
use mathlib.Core.Path.{◌≡◌}
use Prim.Native.Nat.{◌+◌, ◌-◌, ◌≤◌}
use lib.ListN.{length}
use Rattle.wordlaws.specs.Reach.{falls_in}
use Rattle.testword.proofs.falls.Given as goal

abbrev pub invariant-loop-i : goal.invariant-loop-i
invariant-loop-i l =
    (l.i ≤ length l.list) × (l.i-end ≡ length l.list) × (l.n ≤ l.i)
    × (falls_in l.list 0 (length l.list) ≡ l.n + falls_in l.list l.i (length l.list - l.i))

abbrev pub decreases-loop-i : goal.decreases-loop-i
decreases-loop-i l = length l.list - l.i

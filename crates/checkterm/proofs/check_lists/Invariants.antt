-- `check_lists` checks one list after the other: what is left to check from `at` on has the refusal of all three.
use mathlib.Core.Path.{◌≡◌}
use Prim.Native.Nat.{◌-◌, ◌≤◌}
use lib.ListN.{length, drop}
use Rattle.rules.specs.ReadTerm.{lists_of}
use Rattle.checkterm.specs.Lists.{lists_refusal}
use Rattle.checkterm.proofs.check_lists.Given as goal

abbrev pub invariant-loop : goal.invariant-loop
invariant-loop l =
    (l.at ≤ length l.block)
    × (lists_refusal l.told (3 - l.counter) (drop l.at l.block) ≡ lists_refusal l.version 3 (lists_of l.block))

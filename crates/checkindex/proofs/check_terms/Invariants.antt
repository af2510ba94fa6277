-- `check_terms` checks one term after the other: what is left to check from `at` on has the refusal of all.
use mathlib.Core.Path.{◌≡◌}
use Prim.Native.Nat.{◌-◌, ◌≤◌}
use lib.ListN.{length, drop}
use Rattle.rules.specs.Index.{terms_refusal}
use Rattle.checkindex.proofs.check_terms.Given as goal

abbrev pub invariant-loop : goal.invariant-loop
invariant-loop l =
    (l.at ≤ length l.s)
    × (terms_refusal l.version (l.t - l.counter) l.n (drop l.at l.s) ≡ terms_refusal l.version l.t l.n l.s)

-- `positions_rise` goes from page to page: what is left gives what all of it gives, with a base that stops above the limit.
use mathlib.Core.Path.{◌≡◌}
use Prim.Native.Nat.{◌+◌, ◌≤◌}
use lib.ListN.{length, drop}
use Rattle.rules.specs.Limits.{limit}
use Rattle.rules.specs.Term.{total}
use Rattle.wordlaws.specs.Reach.{capped}
use Rattle.wordlaws.proofs.CheckLaws.{spanned}
use Rattle.wordlaws.proofs.FallLaws.{seams}
use Rattle.testword.proofs.positions_rise.Given as goal

abbrev pub invariant-loop-c : goal.invariant-loop-c
invariant-loop-c l =
    (l.from + total (drop l.c-index l.counts) ≡ length l.positions)
    × (l.base ≤ limit + 1) × (l.seams ≤ l.c-index)
    × (seams 0 l.counts l.positions ≡ l.seams + seams l.from (drop l.c-index l.counts) l.positions)
    × (capped (spanned l.counts l.positions) ≡ capped (l.base + spanned (drop l.c-index l.counts) (drop l.from l.positions)))

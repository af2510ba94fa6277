-- `list_common` lists one batch of pages in the room, if there is any, and counts the others batch by batch: the bound
-- grows with each.
use mathlib.Core.Path.{◌≡◌}
use mathlib.Core.List.{List}
use Prim.Native.Nat.{ℕ, ◌-◌}
use lib.ListN.{length}
use Rattle.walklaws.specs.Cursors.{spent_mark}
use Rattle.querylaws.proofs.ListingLaws.{Listing}
use Rattle.query.proofs.list_common.Given as goal

-- whatever the first batch listed is listed still
abbrev pub invariant-loop-s : goal.invariant-loop-s
invariant-loop-s l = (length l.rest ≡ 64)
    × ((room₀ : List ℕ) → Listing l.card l.shapes l.k room₀ l.initial.s.q l.initial.s.mark l.initial.found l.room
    → Listing l.card l.shapes l.k room₀ l.s.q l.s.mark l.found l.room)

abbrev pub decreases-loop-s : goal.decreases-loop-s
decreases-loop-s l = spent_mark - l.s.mark

-- `gather` sets a bit for each element below the word's end: the word in hand is what the elements so far have from
-- that word on.
use mathlib.Core.Path.{◌≡◌}
use Prim.Native.Nat.{ℕ, ◌+◌, ◌*◌, ◌/◌, ◌^◌, ◌<◌}
use lib.ListN.{get_or, take}
use Rattle.rules.specs.List.{map_of}
use Rattle.fillmap.proofs.gather.Given as goal

abbrev pub invariant-loop-i : goal.invariant-loop-i
invariant-loop-i l =
    (l.word ≡ map_of (take (l.from + l.i) l.list) / 2 ^ (64 * l.k))
    × ((j : ℕ) → j < l.from + l.i → get_or l.list j 0 < 64 * l.k + 64)

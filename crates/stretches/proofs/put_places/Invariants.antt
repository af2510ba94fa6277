-- `put_places` goes over the positions one by one: the first i elements stand in the part, and behind them the marks.
use mathlib.Core.Path.{◌≡◌}
use Prim.Native.Nat.{ℕ, ◌+◌, ◌≤◌, ◌<◌}
use lib.ListN.{length, get_or}
use Rattle.wordlaws.specs.Stretch.{marks_of, base_at}
use Rattle.stretches.proofs.put_places.Given as goal

abbrev pub invariant-loop-i : goal.invariant-loop-i
invariant-loop-i l =
    (length l.part ≡ length l.initial.part)
    × (l.base ≡ base_at l.start (marks_of l.initial.part) l.positions l.i)
    × ((j : ℕ) → j < l.i → get_or l.part j 0 ≡ base_at l.start (marks_of l.initial.part) l.positions j + get_or l.positions j 0)
    × ((j : ℕ) → l.i ≤ j → get_or l.part j 0 ≡ get_or l.initial.part j 0)

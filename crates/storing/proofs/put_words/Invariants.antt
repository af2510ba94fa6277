-- `put_words` writes the words: those up to k stand in the room, and what is in hand is the rest of acc.
use mathlib.Core.Path.{◌≡◌}
use Prim.Native.Nat.{ℕ, ◌-◌, ◌*◌, ◌/◌, ◌%◌, ◌^◌, ◌≤◌, ◌<◌}
use lib.ListN.{length}
use Rattle.filllaws.specs.Filling.{Stored}
use Rattle.storing.proofs.put_words.Given as goal

abbrev pub word_at : ℕ → ℕ → ℕ → ℕ
word_at from acc j = acc / 2 ^ (64 * (j - from)) % 2 ^ 64

abbrev pub invariant-loop-k : goal.invariant-loop-k
invariant-loop-k l =
    (l.from ≤ l.k) × (l.k ≤ l.to) × (length l.room ≡ length l.initial.room) × (l.word ≡ l.acc / 2 ^ (64 * (l.k - l.from))) × (l.word < 2 ^ 64)
    × Stored 8 l.at (word_at l.from l.acc) l.from l.k l.initial.room l.room

abbrev pub decreases-loop-k : goal.decreases-loop-k
decreases-loop-k l = l.to - l.k

-- Where blocks lie in the bytes that hold them.
--
--   head_refusal h last s   the refusal of a block's first three tests, its header of h bytes, its versions 1 to last
--   front_refusal h s  the refusal of the length that the block at the front of s states, its header of h bytes
--   Held at s         the block at byte `at` of s states four bytes or more and lies within s
--   Walkable from k s  blocks number 0 to k of s, the first at byte `from`, are held
use Rattle.std.specs.Prelude.{List, ℕ, ◌+◌, ◌≤◌, length}
use Rattle.rules.specs.Verdict.{Verdict}
use Rattle.rules.specs.Verdict.{Accepted}
use Rattle.rules.specs.Bytes.{be_at}
use Rattle.rules.specs.Parts.{inside}
use Rattle.laws.specs.Blocks.{head_tests, block_at}

abbrev pub head_refusal : ℕ → ℕ → List ℕ → Verdict
head_refusal h last s = head_tests h last s Accepted

abbrev pub front_refusal : ℕ → List ℕ → Verdict
front_refusal h s = inside h (λ _. Accepted) s

abbrev pub Held : ℕ → List ℕ → Type 0
Held at s = (4 ≤ be_at 4 s at) × (at + be_at 4 s at ≤ length s)

abbrev pub Walkable : ℕ → ℕ → List ℕ → Type 0
Walkable from k s = (i : ℕ) → i ≤ k → Held (block_at from i s) s

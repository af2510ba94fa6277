-- What holds of blocks in bytes, each part by itself.
--
--   Headed h last s what a block's first three tests leave, its header of h bytes, its versions 1 to last
--   head_tests h last s r   those tests, and r where all have passed
--   Whole b         the block b states its own length
--   block_at h k s   the place of s at which block number k starts,
--                   the first at h, by the lengths that those before it state
--   Inside h f s    inside, its tests by name
--   Lies h p s b    b are the bytes of s at place p, as many as stated there, h at the least and all within s
use Rattle.std.specs.Prelude.{true, cond, not, ◌≡◌, List, ℕ, zero, suc, ◌+◌, ◌≤◌, ltb, eqb, length, get_or, take, drop}
use Rattle.rules.specs.Verdict.{Verdict}
use Rattle.rules.specs.Verdict.{Accepted, Short, Length, Version}
use Rattle.rules.specs.Limits.{up_to}
use Rattle.rules.specs.Bytes.{be_at}
use Rattle.rules.specs.ReadList.{stated}

pub record Headed (h last : ℕ) (s : List ℕ) : Type 0 where
  pub header : h ≤ length s
  pub states : stated s ≡ length s
  pub known : up_to last (get_or s 4 0) ≡ true

abbrev pub head_tests : ℕ → ℕ → List ℕ → Verdict → Verdict
head_tests h last s r =
    cond (ltb (length s) h) Short
    (cond (not (eqb (stated s) (length s))) Length
    (cond (not (up_to last (get_or s 4 0))) Version
    r))

pub record Whole (b : List ℕ) : Type 0 where
  pub header : 4 ≤ length b
  pub states : stated b ≡ length b

unfoldable pub block_at : ℕ → ℕ → List ℕ → ℕ
block_at h zero s = h
block_at h (suc k) s = block_at h k s + be_at 4 s (block_at h k s)

pub record Inside (h : ℕ) (f : List ℕ → Verdict) (s : List ℕ) : Type 0 where
  pub header : h ≤ length s
  pub holds : h ≤ stated s
  pub within : stated s ≤ length s
  pub passes : f (take (stated s) s) ≡ Accepted

pub record Lies (h p : ℕ) (s b : List ℕ) : Type 0 where
  pub holds : h ≤ be_at 4 s p
  pub within : p + be_at 4 s p ≤ length s
  pub part_is : b ≡ take (be_at 4 s p) (drop p s)

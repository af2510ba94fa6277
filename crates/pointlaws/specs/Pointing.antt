-- The search of zero number h, counted from 1, in the number u of a run of m words.
--
--   Before u m h x   the words that are passed have fewer than h zeros
--   Reached u m h x  besides, the next word has the zero, or there is none
use Rattle.std.specs.Prelude.{◌≡◌, ℕ, ◌+◌, ◌*◌, ◌≤◌, ◌<◌}
use Rattle.listlaws.specs.Sound.{ones_to}
use Rattle.pointlaws.specs.declared.Passed.{Passed}

pub record Before (u m h : ℕ) (x : Passed) : Type 0 where
  pub within : x.words ≤ m
  pub counted : x.zeros + ones_to u (64 * x.words) ≡ 64 * x.words
  pub short : x.zeros < h

pub record Reached (u m h : ℕ) (x : Passed) : Type 0 where
  pub before : Before u m h x
  pub next : x.words < m → h + ones_to u (64 * (x.words + 1)) ≤ 64 * (x.words + 1)

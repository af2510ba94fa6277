-- Starts of a phrase on one page, counted from the front [01 Questions, kind 4].
--
--   starts_below ts p n  how many numbers below n are starts of the phrase ts on page p
use Rattle.std.specs.Prelude.{cond, List, ℕ, zero, suc, ◌+◌}
use Rattle.rules.specs.Plain.{InPhrase, stands}

unfoldable pub starts_below : List InPhrase → ℕ → ℕ → ℕ
starts_below ts p zero = 0
starts_below ts p (suc n) = starts_below ts p n + cond (stands ts p n) 1 0

-- Counts of ones in a run [01 The form each place takes: "count of ones"].
--
--   ones_below s p i  how many of the first i bits of the run at byte p of s are 1
use Rattle.std.specs.Prelude.{List, ℕ, zero, suc, ◌+◌}
use Rattle.rules.specs.Runs.{run_bit}

unfoldable pub ones_below : List ℕ → ℕ → ℕ → ℕ
ones_below s p zero = 0
ones_below s p (suc i) = ones_below s p i + run_bit s p i

-- What the tests of a word say.
--
--   summing n cs       every count is at least 1, and their sum is n
--   capped x           x, or limit + 1 where that is less
--   fall_at ps i        1 where element i does not rise above the one before it, else 0; the first has none before it
--   falls_in ps i k     how many of the k elements from number i on do not rise
--   Reached v e r      r is e, capped, where v, and else there is none
use Rattle.std.specs.Prelude.{Bool, cond, ◌&&◌, ◌≡◌, List, Option, ℕ, zero, suc, ◌+◌, min, leb, eqb, get_or}
use Rattle.std.specs.Bool.{then_some}
use Rattle.rules.specs.Limits.{limit}
use Rattle.rules.specs.Term.{total, positive}

unfoldable pub summing : ℕ → List ℕ → Bool
summing n cs = positive cs && eqb (total cs) n

abbrev pub capped : ℕ → ℕ
capped x = min x (limit + 1)

unfoldable pub fall_at : List ℕ → ℕ → ℕ
fall_at ps zero = 0
fall_at ps (suc i) = cond (leb (get_or ps (suc i) 0) (get_or ps i 0)) 1 0

unfoldable pub falls_in : List ℕ → ℕ → ℕ → ℕ
falls_in ps i zero = 0
falls_in ps i (suc k) = fall_at ps i + falls_in ps (suc i) k

abbrev pub Reached : Bool → ℕ → Option ℕ → Type 0
Reached v e r = r ≡ then_some v (capped e)

-- The answer that a tally of the step rule is.
--
--   tallied t   its seeks, its looks and its pages, behind their number
use Rattle.std.specs.Prelude.{List, ◌∷◌, ℕ}
use Rattle.rules.specs.Common.{Tally}
use Rattle.rules.specs.Questions.{numbered}

unfoldable pub tallied : Tally → List ℕ
tallied t = numbered (t.seeks ∷ (t.looks ∷ t.listed))

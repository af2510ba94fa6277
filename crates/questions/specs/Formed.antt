-- A run of questions, with as many of them allowed as it has numbers.
--
--   formed T qs    whether all of the questions are well formed
--   answers_to s qs the answers of the card s to them
use Rattle.std.specs.Prelude.{Bool, List, ℕ, length}
use Rattle.rules.specs.Questions.{well_formed, replies}

unfoldable pub formed : ℕ → List ℕ → Bool
formed T qs = well_formed T (length qs) qs

unfoldable pub answers_to : List ℕ → List ℕ → List (List ℕ)
answers_to s qs = replies s (length qs) qs

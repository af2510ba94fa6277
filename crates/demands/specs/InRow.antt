-- Phrases of which no word is dropped, by the line of document 01 that request b changed: "A start is a position p such
-- that word i of the phrase stands at p+i on that page, for every i from 0."
--
--   stands_in_row ts p a  word i of ts stands at a + i on page p, for every i from 0
--   starts_in_row ts p    how many starts the words ts have on page p
--   by_row ts            the answer: each page that has a start, with the number of its starts
use Rattle.std.specs.Prelude.{Bool, true, cond, ◌&&◌, List, [], ◌∷◌, ◌++◌, ℕ, ◌+◌, ltb}
use Rattle.rules.specs.Term.{Word}
use Rattle.rules.specs.Plain.{member, positions_on}
use Rattle.rules.specs.Questions.{numbered}

unfoldable pub stands_in_row : List Word → ℕ → ℕ → Bool
stands_in_row [] p a = true
stands_in_row (t ∷ ts) p a = member a (positions_on p t) && stands_in_row ts p (a + 1)

unfoldable pub among_in_row : List Word → ℕ → List ℕ → ℕ
among_in_row ts p [] = 0
among_in_row ts p (q ∷ qs) = cond (stands_in_row ts p q) 1 0 + among_in_row ts p qs

unfoldable pub starts_in_row : List Word → ℕ → ℕ
starts_in_row [] p = 0
starts_in_row (t ∷ ts) p = among_in_row (t ∷ ts) p (positions_on p t)

unfoldable pub pages_in_row : List Word → List ℕ → List ℕ
pages_in_row ts [] = []
pages_in_row ts (p ∷ ps) = cond (ltb 0 (starts_in_row ts p)) (p ∷ (starts_in_row ts p ∷ [])) [] ++ pages_in_row ts ps

unfoldable pub by_row : List Word → List ℕ
by_row [] = numbered []
by_row (t ∷ ts) = numbered (pages_in_row (t ∷ ts) t.pages)

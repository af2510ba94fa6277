-- The answers of a run of numbers.
--
--   cut f ns         the answers at the front of ns, at most f: each begins with how many numbers it has behind that
--   answers_in ns     all of them
--   Counted given    every answer has as many numbers as it begins by saying
use Rattle.std.specs.Prelude.{◌≡◌, List, [], ◌∷◌, ℕ, zero, suc, ◌+◌, length, get_or, take, drop}

unfoldable pub cut : ℕ → List ℕ → List (List ℕ)
cut zero ns = []
cut (suc f) [] = []
cut (suc f) (c ∷ ns) = (c ∷ take c ns) ∷ cut f (drop c ns)

unfoldable pub answers_in : List ℕ → List (List ℕ)
answers_in ns = cut (length ns) ns

abbrev pub Counted : List (List ℕ) → Type 0
Counted [] = Unit {0}
Counted (a ∷ rest) = (length a ≡ get_or a 0 0 + 1) × Counted rest

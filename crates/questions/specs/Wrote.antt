-- An answer in lent room: whole at its front, or not at all.
--
--   Wrote a room r after   the answer a was put into the room, which then is `after`; r is its length, or none where it did not fit
use Rattle.std.specs.Prelude.{◌≡◌, List, ℕ, ◌≤◌, ◌<◌, length, Option, MatchOption}
use Rattle.rules.specs.Write.{laid}

abbrev pub Wrote : List ℕ → List ℕ → Option ℕ → List ℕ → Type 0
Wrote a room r after = MatchOption r ((length room < length a) × (after ≡ room))
    (λ n. (n ≡ length a) × (n ≤ length room) × (after ≡ laid a room))

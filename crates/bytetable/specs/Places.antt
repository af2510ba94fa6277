-- The table of the places of a byte's ones.
--
--   PlacesOfOnes t  t is the table: at b · 8 + j it has the place of the one number j, counted from 0, of the byte b,
--                   and 8 where there is no such one
use Rattle.std.specs.Prelude.{◌≡◌, List, ℕ, ◌+◌, ◌*◌, ◌<◌, get_or}
use Rattle.fields.specs.Words.{place_of_one}

abbrev pub PlacesOfOnes : List ℕ → Type 0
PlacesOfOnes t = (b j : ℕ) → b < 256 → j < 8 → get_or t (b * 8 + j) 0 ≡ place_of_one 8 b j

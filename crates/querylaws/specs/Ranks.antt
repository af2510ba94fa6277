-- The rank of a page, and what tells it.
--
--   rank_of s sh i m       the rank of page m - 1 in list i: how many of its elements are below
--   rank_by s sh q i       that of the page that cursor i is on
--   OnElement s sh i m b  list i has an element of which m is the mark and b the bit
use Rattle.std.specs.Prelude.{◌≡◌, List, ℕ, ◌+◌, ◌-◌, ◌<◌, length, get_or}
use Rattle.rules.specs.Seek.{place_of}
use Rattle.rules.specs.Plain.{below}
use Rattle.querylaws.specs.declared.Query.{Query}
use Rattle.querylaws.specs.Lists.{form_in, pages_at, bound_in, ListAt}
use Rattle.querylaws.specs.Queries.{cursor_in}

unfoldable pub rank_of : List ℕ → List ℕ → ℕ → ℕ → ℕ
rank_of s sh i m = below (m - 1) (pages_at s sh i)

abbrev pub rank_by : List ℕ → List ℕ → Query → ℕ → ℕ
rank_by s sh q i = rank_of s sh i (cursor_in q i).mark

pub record OnElement (s sh : List ℕ) (i m b : ℕ) : Type 0 where
  pub list : ListAt s sh i
  pub number : ℕ
  pub inside : number < length (pages_at s sh i)
  pub marked : m ≡ get_or (pages_at s sh i) number 0 + 1
  pub placed : b ≡ place_of (form_in s sh i) (bound_in sh) (pages_at s sh i) number

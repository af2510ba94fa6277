-- One list, opened by itself.
--
--   OpenedAlone b r   the numbers r place the list b in its own bytes, as the one list of a query
use Rattle.std.specs.Prelude.{◌≡◌, List, ℕ}
use Rattle.rules.specs.ReadList.{decode}
use Rattle.querylaws.specs.Lists.{pages_at, Lists}

pub record OpenedAlone (b r : List ℕ) : Type 0 where
  pub lists : Lists b r 1
  pub pages : pages_at b r 0 ≡ decode b

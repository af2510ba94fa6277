-- Readers of the same lists, whatever forms these are stored in [02 f].
--
--   Alike r z       z reads the list that r reads, and its cursor is where that of r is
--   AllAlike rs zs  so does each of zs what its reader of rs does
use Rattle.std.specs.Prelude.{◌≡◌, List, [], ◌∷◌}
use Rattle.rules.specs.Common.{Reader}

pub record Alike (r z : Reader) : Type 0 where
  pub pages : z.pages ≡ r.pages
  pub cursor : z.cursor ≡ r.cursor

abbrev pub AllAlike : List Reader → List Reader → Type 0
AllAlike [] [] = Unit {0}
AllAlike [] (z ∷ zs) = ⊥
AllAlike (r ∷ rs) [] = ⊥
AllAlike (r ∷ rs) (z ∷ zs) = Alike r z × AllAlike rs zs

-- What is asked of the lists of a word before they are laid into room.
--
--   Sums g cs room     the sums of cs make a list of shape g, and the room holds its block
--   Places g cs ps room  the elements of the positions ps likewise
--   Shaped v g ps cs qs  g are the shapes of the lists of a word that is writable for an index of version v
use Rattle.std.specs.Prelude.{true, ◌≡◌, List, ℕ, length}
use Rattle.rules.specs.List.{rising, form_of}
use Rattle.rules.specs.Term.{lent_word, total, next, placed, places, positive}
use Rattle.termlaws.specs.Words.{Writable}
use Rattle.shape.specs.declared.Shape.{Shape}
use Rattle.shape.specs.Shape.{shape_of, form_shape}
use Rattle.filllaws.specs.Filling.{Fitting}
use Rattle.wordlaws.specs.declared.Shapes.{Shapes}

pub record Sums (g : Shape) (cs room : List ℕ) : Type 0 where
  pub fitting : Fitting g room
  pub count : length cs ≡ g.n
  pub reach : total cs ≡ g.u
  pub counted : positive cs ≡ true

pub record Places (g : Shape) (cs ps room : List ℕ) : Type 0 where
  pub fitting : Fitting g room
  pub count : length ps ≡ g.n
  pub summed : total cs ≡ length ps
  pub counted : positive cs ≡ true
  pub rises : rising 0 g.u (placed 0 cs ps) ≡ true

pub record Shaped (v : ℕ) (g : Shapes) (ps cs qs : List ℕ) : Type 0 where
  pub writable : Writable v g.pages.u (lent_word ps cs qs)
  pub pages_are : g.pages ≡ form_shape (form_of v g.pages.u (length ps)) g.pages.u (length ps)
  pub counts_are : g.counts ≡ shape_of (total cs) (length cs)
  pub places_are : g.positions ≡ shape_of (next 0 (places (lent_word ps cs qs))) (length qs)

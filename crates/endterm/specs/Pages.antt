-- The pointers of a word's pages, which may be a bitmap [02 f].
--
--   Formed g s          g is the shape of a list in some form, and s has room for its block
--   PagesPointed g d e  e is d with the pointers of that list, or its numbers, whatever the form
use Rattle.std.specs.Prelude.{◌≡◌, List, ℕ}
use Rattle.rules.specs.List.{Form}
use Rattle.rules.specs.InPlace.{form_pointed}
use Rattle.shape.specs.declared.Shape.{Shape}
use Rattle.shape.specs.Shape.{form_shape}
use Rattle.filllaws.specs.Filling.{FittingAs}

pub record Formed (g : Shape) (s : List ℕ) : Type 0 where
  pub form : Form
  pub fitting : FittingAs form g s

abbrev pub PagesPointed : Shape → List ℕ → List ℕ → Type 0
PagesPointed g d e = (o : Form) → g ≡ form_shape o g.u g.n → e ≡ form_pointed o g.u g.n d

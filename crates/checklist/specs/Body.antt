-- What is asked of a block behind its header.
--
--   Framing g s     s is bytes, g is the shape of its list in its form, and this is what the refusals 1 to 5 leave of s
--   BodyTold s r    r tells whether s is the block of the valid list that is read of it, in the form of its version
use Rattle.std.specs.Prelude.{Bool, ◌≡◌, List, ℕ}
use Rattle.rules.specs.Bytes.{Bytes}
use Rattle.rules.specs.List.{Form}
use Rattle.rules.specs.ReadList.{list_u, list_n, form_at, decode, is_block}
use Rattle.shape.specs.declared.Shape.{Shape}
use Rattle.shape.specs.Shape.{form_shape}
use Rattle.listlaws.specs.Sound.{FramedAs}

pub record Framing (g : Shape) (s : List ℕ) : Type 0 where
  pub form : Form
  pub bytes : Bytes s
  pub framed : FramedAs form s
  pub shape_is : g ≡ form_shape form (list_u s) (list_n s)

abbrev pub BodyTold : List ℕ → Bool → Type 0
BodyTold s r = r ≡ is_block (form_at s) s (list_u s) (decode s)

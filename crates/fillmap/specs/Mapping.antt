-- A bitmap that is being written from its first word on [02 f].
--
--   word_of xs k        word number k of the bitmap of xs
--   number_of xs q      number q of the bitmap of xs, as four bytes hold it
--   Parted xs p i      the elements of xs before number i are below p, those from number i on are not
--   Mapped g xs before room q  of the bitmap of xs the header stands in the room, the words below number 4 * q and the
--                      numbers up to number q; behind the block is what was there before
--   SomeForm g room    g is a shape in some form, and the room holds its block
--   Filled g xs d e    e is d with the block of xs laid into it, in whatever form the shape g is
use Rattle.std.specs.Prelude.{◌≡◌, List, ℕ, ◌+◌, ◌*◌, ◌/◌, ◌%◌, ◌^◌, ◌≤◌, ◌<◌, length, get_or}
use Rattle.rules.specs.Bytes.{be_at}
use Rattle.rules.specs.List.{map_of, pages_below, Form, bitmap, form_block}
use Rattle.rules.specs.Write.{laid}
use Rattle.shape.specs.declared.Shape.{Shape}
use Rattle.shape.specs.Shape.{form_shape}
use Rattle.filllaws.specs.Filling.{FittingAs, FramedAs}

abbrev pub word_of : List ℕ → ℕ → ℕ
word_of xs k = map_of xs / 2 ^ (64 * k) % 2 ^ 64

abbrev pub number_of : List ℕ → ℕ → ℕ
number_of xs q = pages_below (map_of xs) q % 2 ^ 32

pub record Parted (xs : List ℕ) (p i : ℕ) : Type 0 where
  pub within : i ≤ length xs
  pub below : (j : ℕ) → j < i → get_or xs j 0 < p
  pub above : (j : ℕ) → i ≤ j → j < length xs → p ≤ get_or xs j 0

pub record Mapped (g : Shape) (xs before room : List ℕ) (q : ℕ) : Type 0 where
  pub framed : FramedAs bitmap g before room
  pub words : (k : ℕ) → k < 4 * q → be_at 8 room (g.upper + 8 * k) ≡ word_of xs k
  pub numbers : (j : ℕ) → 0 < j → j ≤ q → be_at 4 room (9 + 4 * j) ≡ number_of xs j

abbrev pub SomeForm : Shape → List ℕ → Type 0
SomeForm g room = (o : Form) × FittingAs o g room

abbrev pub Filled : Shape → List ℕ → List ℕ → List ℕ → Type 0
Filled g xs d e = (o : Form) → g ≡ form_shape o g.u g.n → e ≡ laid (form_block o g.u xs) d

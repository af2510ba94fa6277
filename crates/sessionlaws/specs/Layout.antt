-- The block that a session writes [02 c].
--
--   layout_of v N P Q U  the shapes of its lists and their places, for the announcement of N, P pages, Q positions and U
--                     in an index of version v
--   Announcing p c q  p, c and q are the shapes of the pages, the counts and the positions of an accepted announcement
--   LaidOut p c q g   g is the layout of such an announcement, whatever it is
--   Housed v g room   g is the layout that an accepted announcement gives, and the room holds its block
--   Roomed g room     it is for some version
--   FramesPut g d e   e is d with the block of which no element is laid, whatever the version
--   ListsPointed g d e  e is d with the pointers of the three lists, or a bitmap's numbers, whatever the version
use Rattle.std.specs.Prelude.{◌≡◌, List, ℕ, ◌≤◌, length}
use Rattle.rules.specs.Verdict.{Accepted}
use Rattle.rules.specs.List.{form_of}
use Rattle.rules.specs.Write.{laid}
use Rattle.rules.specs.InPlace.{from, pointed, form_pointed}
use Rattle.rules.specs.Stream.{announce_refusal, counts_at, positions_at, stream_size, announced}
use Rattle.shape.specs.declared.Shape.{Shape}
use Rattle.shape.specs.Shape.{shape_of, form_shape}
use Rattle.sessionlaws.specs.declared.Layout.{Layout}

unfoldable pub layout_of : ℕ → ℕ → ℕ → ℕ → ℕ → Layout
layout_of v N P Q U = record {
  pages = form_shape (form_of v N P) N P;
  counts = shape_of Q P;
  positions = shape_of U Q;
  second = counts_at v N P;
  third = positions_at v N P Q;
  size = stream_size v N P Q U;
}

pub record Announcing (p c q : Shape) : Type 0 where
  pub version : ℕ
  pub n : ℕ
  pub pages : ℕ
  pub positions : ℕ
  pub u : ℕ
  pub paged : p ≡ form_shape (form_of version n pages) n pages
  pub counted : c ≡ shape_of positions pages
  pub placed : q ≡ shape_of u positions
  pub accepts : announce_refusal version n pages positions u ≡ Accepted

abbrev pub LaidOut : Shape → Shape → Shape → Layout → Type 0
LaidOut p c q g =
    (v N P Q U : ℕ) → p ≡ form_shape (form_of v N P) N P → c ≡ shape_of Q P → q ≡ shape_of U Q → g ≡ layout_of v N P Q U

pub record Housed (v : ℕ) (g : Layout) (room : List ℕ) : Type 0 where
  pub shape : g ≡ layout_of v g.pages.u g.pages.n g.positions.n g.positions.u
  pub accepts : announce_refusal v g.pages.u g.pages.n g.positions.n g.positions.u ≡ Accepted
  pub fits : g.size ≤ length room

pub record Roomed (g : Layout) (room : List ℕ) : Type 0 where
  pub version : ℕ
  pub house : Housed version g room

abbrev pub FramesPut : Layout → List ℕ → List ℕ → Type 0
FramesPut g d e = (v : ℕ) → Housed v g d
    → e ≡ laid (announced v g.pages.u g.pages.n g.positions.n g.positions.u) d

abbrev pub ListsPointed : Layout → List ℕ → List ℕ → Type 0
ListsPointed g d e = (v : ℕ) → Housed v g d
    → e ≡ from g.third (pointed g.positions.u g.positions.n)
    (from g.second (pointed g.counts.u g.counts.n)
    (from 5 (form_pointed (form_of v g.pages.u g.pages.n) g.pages.u g.pages.n) d))

-- What the test of a run of postings tells [02 c].
--
--   starts lo xs     whether xs, where it has any, starts at lo or above
--   Following s t    the postings t may follow those of session s, each test by itself
--   Laying g s t room  they may, g is the layout of what was announced, and the room holds its block
--   stepped s ps qs b  session s with the pages ps and the positions qs behind it, and the base b
--   Followed s t r   r is the base behind the postings t where they may follow those of session s, and else there is none
use Rattle.std.specs.Prelude.{Bool, true, ◌≡◌, List, [], ◌∷◌, Option, ℕ, ◌+◌, ◌≤◌, leb, length}
use Rattle.std.specs.Bool.{then_some}
use Rattle.rules.specs.declared.Stream.{Stream}
use Rattle.rules.specs.Term.{Word, next, placed}
use Rattle.rules.specs.List.{rising}
use Rattle.rules.specs.Stream.{live, follows}
use Rattle.termlaws.specs.Words.{Agreeing}
use Rattle.sessionlaws.specs.declared.Layout.{Layout}
use Rattle.sessionlaws.specs.Layout.{layout_of}

unfoldable pub starts : ℕ → List ℕ → Bool
starts lo [] = true
starts lo (x ∷ xs) = leb lo x

abbrev pub Followed : Stream → Word → Option ℕ → Type 0
Followed s t r = r ≡ then_some (follows s t) (next s.base (placed s.base t.counts t.positions))

pub record Following (s : Stream) (t : Word) : Type 0 where
  pub agreeing : Agreeing s.n t
  pub seam : rising s.page s.n t.pages ≡ true
  pub pages : s.laid + length t.pages ≤ s.pages
  pub positions : s.filled + length t.positions ≤ s.positions
  pub ends : next s.base (placed s.base t.counts t.positions) ≤ s.u

pub record Laying (g : Layout) (s : Stream) (t : Word) (room : List ℕ) : Type 0 where
  pub layout : g ≡ layout_of s.version s.n s.pages s.positions s.u
  pub goes_on : live s ≡ true
  pub may : follows s t ≡ true
  pub fits : g.size ≤ length room

unfoldable pub stepped : Stream → List ℕ → List ℕ → ℕ → Stream
stepped s ps qs b = record {
  mark = s.mark;
  version = s.version;
  n = s.n;
  pages = s.pages;
  positions = s.positions;
  u = s.u;
  laid = s.laid + length ps;
  filled = s.filled + length qs;
  page = next s.page ps;
  base = b;
}

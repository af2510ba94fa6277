-- A list gone through from one to one, up to a bound.
--
--   Passing s g to b w  reading of the block s stands at w, with up to `to` elements passed, of which none but the last is
--                       at least b
--   OnesLeft s g n x    x is what is left of a word of the upper run where n elements are passed
--   PassedBelow s g to b w r  r has passed what w has and those after, up to the first at least b, or `to` of them
use Rattle.std.specs.Prelude.{◌≡◌, List, ℕ, ◌-◌, ◌≤◌}
use Rattle.rules.specs.ReadList.{decode}
use Rattle.shape.specs.declared.Shape.{Shape}
use Rattle.walklaws.specs.declared.Ones.{Ones}
use Rattle.walklaws.specs.Walks.{Walking}
use Rattle.span.specs.declared.Walk.{Walk}
use Rattle.span.specs.Walks.{past, WalkOn}

pub record Passing (s : List ℕ) (g : Shape) (to b : ℕ) (w : Walk) : Type 0 where
  pub on : WalkOn s g w
  pub inside : w.next ≤ to
  pub below : past (decode s) (w.next - 1) ≤ b

pub record OnesLeft (s : List ℕ) (g : Shape) (n : ℕ) (x : Ones) : Type 0 where
  pub walking : Walking s g x
  pub passed : x.rank ≡ n

pub record PassedBelow (s : List ℕ) (g : Shape) (to b : ℕ) (w r : Walk) : Type 0 where
  pub passing : Passing s g to b r
  pub onward : w.next ≤ r.next
  pub all : r.past ≤ b → r.next ≡ to

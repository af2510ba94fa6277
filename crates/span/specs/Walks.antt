-- A list gone through by rank.
--
--   past xs i         one past the last of the first i elements of xs; 0 for i = 0
--   behind U xs i     the place behind the one of the last of the first i elements of xs, a list below U in two runs;
--                     0 for i = 0
--   WalkOn s g w      s is an accepted block of shape g, and w is where reading stands with its first `next` elements
--                     passed: one past the last of them, and the place behind its one
--   PassedTo s g n w  so it is, with n elements passed
use Rattle.std.specs.Prelude.{◌≡◌, List, ℕ, zero, suc, ◌+◌, ◌≤◌, take}
use Rattle.rules.specs.Counts.{ones_below}
use Rattle.rules.specs.List.{two_runs}
use Rattle.rules.specs.Term.{next}
use Rattle.rules.specs.ReadList.{list_u, decode}
use Rattle.rules.specs.Seek.{place_of}
use Rattle.shape.specs.declared.Shape.{Shape}
use Rattle.readlaws.specs.Open.{Open}
use Rattle.span.specs.declared.Walk.{Walk}

unfoldable pub past : List ℕ → ℕ → ℕ
past xs i = next 0 (take i xs)

unfoldable pub behind : ℕ → List ℕ → ℕ → ℕ
behind U xs zero = 0
behind U xs (suc i) = place_of two_runs U xs i + 1

pub record WalkOn (s : List ℕ) (g : Shape) (w : Walk) : Type 0 where
  pub opened : Open s g
  pub within : w.next ≤ g.n
  pub past_is : w.past ≡ past (decode s) w.next
  pub place_is : w.place ≡ behind (list_u s) (decode s) w.next
  pub counted : ones_below s g.upper w.place ≡ w.next

pub record PassedTo (s : List ℕ) (g : Shape) (n : ℕ) (w : Walk) : Type 0 where
  pub on : WalkOn s g w
  pub at : w.next ≡ n

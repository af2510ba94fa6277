-- Laws of the pass over a bitmap: what is known of the stretches of 256 bits that are passed, and what all tell.
use mathlib.Core.Path.{◌≡◌, sym, ap, ◌∙◌}
use mathlib.Core.List.{List}
use Prim.Native.Nat.{ℕ, ◌+◌, ◌*◌, ◌/◌, ◌≤◌, ◌<◌}
use native.Mathlib.Omega.{arith}
use borrow.Author.Tests.{eqb-true, eqb-false}
use lib.Dec.{eqb}
use lib.ListN.{length}
use Rattle.rules.specs.Limits.{limit}
use Rattle.rules.specs.Bytes.{be_at}
use Rattle.rules.specs.Runs.{words_for}
use Rattle.rules.specs.Counts.{ones_below}
use Rattle.rules.specs.List.{map_at, map_size}
use Rattle.laws.proofs.CountLaws.{below_none, ones_below_le}
use Rattle.laws.proofs.RunLaws.{ones_whole}
use Rattle.shape.specs.declared.Shape.{Shape}
use Rattle.shape.specs.Shape.{map_shape}
use Rattle.maplaws.specs.Maps.{MapSound}
use Rattle.checklaws.specs.Check.{Tells, Clear}

-- the shape of a bitmap, over its U
pub record MapLaid (s : List ℕ) (g : Shape) : Type 0 where
  pub within : g.u ≤ limit
  pub upper_is : g.upper ≡ map_at g.u
  pub upper_at_lem : g.upper ≡ 13 + 4 * (g.u / 256)
  pub bits_are : g.bits ≡ g.u
  pub length_is : length s ≡ g.upper + 8 * words_for g.u

pub map_laid : (s : List ℕ) (g : Shape) → g ≡ map_shape g.u g.n → length s ≡ g.end → g.u ≤ limit → MapLaid s g
unfolding map_shape map_at map_size
map_laid s g e l h =
    let a : g.upper ≡ 13 + 4 * (g.u / 256) = ap (λ (x : Shape). x.upper) e in
    let z : g.end ≡ 13 + 4 * (g.u / 256) + 8 * words_for g.u = ap (λ (x : Shape). x.end) e in
    record {
      within = h;
      upper_is = a;
      upper_at_lem = a;
      bits_are = ap (λ (x : Shape). x.bits) e;
      length_is = omega (arith, a, z, l);
    }

-- q stretches with i ones are passed, and the numbers behind them count
pub record Counted (s : List ℕ) (at q i : ℕ) : Type 0 where
  pub ones_are : i ≡ ones_below s at (256 * q)
  pub numbers_are : (j : ℕ) → 0 < j → j ≤ q → be_at 4 s (9 + 4 * j) ≡ ones_below s at (256 * j)

module _ (s : List ℕ) (at : ℕ) where
  pub counted_start : Counted s at 0 0
  counted_start = record { ones_are = sym (below_none s at); numbers_are = λ j g h. absurd (omega arith) }

  pub counted_few : (q i : ℕ) → Counted s at q i → i ≤ 256 * q
  counted_few q i c = omega (arith, c.ones_are, ones_below_le s at (256 * q))

  -- the ones with those of the next four words
  pub ones_next : (q i d : ℕ) → Counted s at q i → ones_below s at (64 * (4 * q)) + d ≡ ones_below s at (64 * (4 * q + 4))
      → i + d ≡ ones_below s at (256 * (q + 1))
  ones_next q i d c e =
      let a : 64 * (4 * q) ≡ 256 * q = omega arith in
      let b : 64 * (4 * q + 4) ≡ 256 * (q + 1) = omega arith in
      omega (arith, c.ones_are, rw (a, b) at e)

-- what all the stretches and the words behind them tell
module _ (s : List ℕ) (g : Shape) (l : MapLaid s g) (clear : Clear s g.upper g.bits) (i d : ℕ)
    (c : Counted s g.upper (g.u / 256) i)
    (e : ones_below s g.upper (64 * (4 * (g.u / 256))) + d ≡ ones_below s g.upper (64 * words_for g.bits)) where
  total : i + d ≡ ones_below s (map_at g.u) g.u
  total =
      let a : 64 * (4 * (g.u / 256)) ≡ 256 * (g.u / 256) = omega arith in
      let w = ones_whole s g.upper g.bits clear in
      rw (← l.upper_is) (omega (arith, c.ones_are, rw a at e, w, ap (ones_below s g.upper) l.bits_are))

  pub counted_tells : Tells (eqb (i + d) g.n) (MapSound s g.u g.n)
  counted_tells = (
    λ t. record {
      ones_are = sym total ∙ eqb-true (i + d) g.n t;
      spare = rw (l.upper_is, l.bits_are) at clear;
      numbers_are = rw l.upper_is at c.numbers_are;
    },
    λ t h. eqb-false (i + d) g.n t (total ∙ h.ones_are),
  )

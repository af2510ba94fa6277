-- Bounds of what is known between two words: no sum or product in the code passes 64 bits.
use Prim.Native.Nat.{ℕ, ◌+◌, ◌*◌, ◌^◌, ◌≤◌, ◌<◌}
use mathlib.Core.List.{List}
use native.Mathlib.Omega.{arith}
use lib.Count.{ones, ones-le}
use lib.ListN.{length}
use Rattle.rules.specs.Runs.{words_for}
use Rattle.shape.specs.declared.Shape.{Shape}
use Rattle.checklaws.specs.Check.{Laid, Ready}

pub record Small (s : List ℕ) (g : Shape) (k i q x : ℕ) : Type 0 where
  pub place : 64 * k ≤ 2 ^ 25 + 63
  pub elements : i ≤ 2 ^ 25
  pub next : q ≤ 2 ^ 18
  pub ones_few : ones x ≤ 64

pub small : (s : List ℕ) (g : Shape) (k i q x : ℕ) → Ready s g k i q x → x < 2 ^ 64 → Small s g k i q x
unfolding words_for
small s g k i q x r fits =
    let d = r.laid in record {
      place = omega (arith, d.few, r.inside);
      elements = omega (arith, d.few, d.most, r.few);
      next = omega (arith, d.few, d.lower_at_lem, r.pointed.last);
      ones_few = ones-le 64 x fits;
    }

-- the bytes of the next word
pub word_room : (s : List ℕ) (g : Shape) (k : ℕ) → Laid s g → k < words_for g.bits → g.upper + 8 * k + 8 ≤ length s
word_room s g k d h = omega (arith, d.length_is)

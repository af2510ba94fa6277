-- Laws of the pointers that a word decides: one that stands in it is after its zero, and which number is next.
use mathlib.Core.Path.{◌≡◌, sym, ap, ◌∙◌}
use mathlib.Core.List.{List}
use Prim.Native.Nat.{ℕ, suc, ◌+◌, ◌-◌, ◌*◌, ◌/◌, ◌%◌, ◌^◌, ◌≤◌, ◌<◌}
use native.Mathlib.Decide.{dec_lt}
use native.Mathlib.Omega.{arith}
use borrow.Author.Tests.{eqb-true, eqb-false}
use lib.Count.{ones}
use lib.Dec.{eqb}
use Rattle.rules.specs.Bytes.{be_at}
use Rattle.rules.specs.Runs.{bit, run_word, run_bit}
use Rattle.rules.specs.Counts.{ones_below}
use Rattle.laws.proofs.CountLaws.{word_ones, next_word, below_suc, run_steps}
use Rattle.laws.proofs.RunLaws.{run_bit_lem}
use Rattle.shape.specs.declared.Shape.{Shape}
use Rattle.listlaws.specs.Sound.{After}
use Rattle.listlaws.proofs.AfterLaws.{after_lt, after_le}
use Rattle.checklaws.specs.Check.{Tells, Laid, Pointed, Stands}

-- the last test of a place that passed the others
pub stands_tells : (x b i k p o : ℕ) → b < p → p ≤ b + 64 → x / 2 ^ (p - b - 1) % 2 ≡ 0 → o ≡ ones (x % 2 ^ (p - b))
    → Tells (eqb (k + i + o) p) (Stands x b i k p)
unfolding bit
stands_tells x b i k p o l h z e = (
  λ t. record { above = l; within = h; zero_last = z; counted = omega (arith, e, eqb-true (k + i + o) p t) },
  λ t a. eqb-false (k + i + o) p t (omega (arith, e, a.counted)),
)

module _ (s : List ℕ) (up k x i : ℕ) (x-is : x ≡ run_word s up k) (counted : ones_below s up (64 * k) ≡ i) where
  -- the ones below a place of the word, and its bit before it
  below : (p : ℕ) → 64 * k ≤ p → p ≤ 64 * k + 64 → ones_below s up p ≡ i + ones (x % 2 ^ (p - 64 * k))
  below p l h =
      let e : 64 * k + (p - 64 * k) ≡ p = omega arith in
      rw (e, counted, ← x-is) at (word_ones s up k (p - 64 * k) (omega arith))

  bit_before : (p : ℕ) → 64 * k < p → p ≤ 64 * k + 64 → run_bit s up (p - 1) ≡ bit x (p - 64 * k - 1)
  bit_before p l h =
      let e : 64 * k + (p - 64 * k - 1) ≡ p - 1 = omega arith in
      rw (e, ← x-is) at (run_bit_lem s up k (p - 64 * k - 1) (omega arith))

  pub stands_after : (z p : ℕ) → Stands x (64 * k) i z p → After (ones_below s up) z p
  stands_after z p a = record {
    counted = omega (arith, a.counted, below p (omega (arith, a.above)) a.within);
    zero_last = λ j e.
        let q : p - 1 ≡ j = omega arith in
        let b = rw q at (bit_before p a.above a.within) in
        omega (arith, below_suc s up j, b, a.zero_last);
  }

  pub after_stands : (z p : ℕ) → x < 2 ^ 64 → After (ones_below s up) z p → 64 * k < z + i → z + i + ones x ≤ 64 * k + 64
      → Stands x (64 * k) i z p
  after_stands z p fits a l h =
      let n : 64 * (k + 1) ≡ 64 * k + 64 = omega arith in
      let w = rw n at (next_word s up k x x-is fits) in
      let g = after_lt (ones_below s up) (run_steps s up) z p a (64 * k) (omega (arith, counted)) in
      let u = after_le (ones_below s up) (run_steps s up) z p a (64 * k + 64) (omega (arith, w, counted)) in
      let e : suc (p - 1) ≡ p = omega arith in
      record {
        above = g;
        within = u;
        zero_last = sym (bit_before p g u)
            ∙ omega (arith, below_suc s up (p - 1), rw e at (a.zero_last (p - 1) e), ap (ones_below s up) e);
        counted = omega (arith, a.counted, below p (omega arith) u);
      }

-- ---- the number of the next pointer

module _ (s : List ℕ) (g : Shape) (k i q c : ℕ) (a : Pointed s g (64 * k) i q) where
  -- the word decides one
  pub pointed_next : Laid s g → 9 + 4 * q < g.lower → After (ones_below s g.upper) (256 * q) (be_at 4 s (9 + 4 * q))
      → Pointed s g (64 * (k + 1)) (i + c) (q + 1)
  pointed_next d l h = record {
    first = omega arith;
    last = omega (arith, d.lower_at_lem);
    ahead = λ _. omega (arith, a.ahead l);
    behind = λ j f u.
        elim (dec_lt j q) [
          | yes y ↦ a.behind j f y
          | no y ↦
              let e : q ≡ j = omega arith in
              rw e at h
        ];
  }

-- Laws of the highest one of a word, and of words that have none.
use mathlib.Core.Path.{◌≡◌, refl, ap, ◌∙◌}
use mathlib.Core.List.{List}
use Prim.Native.Nat.{ℕ, suc, ◌+◌, ◌-◌, ◌*◌, ◌%◌, ◌/◌, ◌^◌, ◌≤◌, ◌<◌}
use native.Mathlib.Nat.{pow-suc}
use native.Mathlib.Omega.{arith}
use lib.Count.{ones, ones_cat, count_leading_zeros, leading_top}
use lib.Pow.{high, low}
use Rattle.rules.specs.Runs.{bit, run_word}
use Rattle.rules.specs.Counts.{ones_below}
use Rattle.laws.proofs.CountLaws.{word_ones, next_word}
use Rattle.laws.proofs.RunLaws.{run_bit_lem}
use Rattle.readlaws.specs.Open.{OneAt}

-- ---- a word

-- place p of x has its highest one: all others lie below it
pub record Highest (x p : ℕ) : Type 0 where
  pub set : bit x p ≡ 1
  pub others : ones (x % 2 ^ p) + 1 ≡ ones x

ones_one : ones 1 ≡ 1
unfolding ones
ones_one = refl

highest_at : (x p : ℕ) → 2 ^ p ≤ x → x < 2 ^ suc p → Highest x p
unfolding bit
highest_at x p l h =
    let r : ℕ = x - 2 ^ p in
    let e : 1 * 2 ^ p + r ≡ x = omega arith in
    let f : r < 2 ^ p = omega (arith, pow-suc 2 p) in
    let up : x / 2 ^ p ≡ 1 = rw e at (high 1 p f) in
    let down : x % 2 ^ p ≡ r = rw e at (low 1 p f) in
    record { set = ap (λ (q : ℕ). q % 2) up; others = rw down (omega (arith, rw e at (ones_cat p 1 r f), ones_one)) }

module _ (x : ℕ) (some : 0 < x) (fits : x < 2 ^ 64) where
  pub leading_some : count_leading_zeros 64 x ≤ 63
  leading_some = omega (arith, (leading_top 64 x some fits).1)

  leading_highest : Highest x (63 - count_leading_zeros 64 x)
  leading_highest =
      let t = leading_top 64 x some fits in
      let e : 63 - count_leading_zeros 64 x ≡ t.0 = omega (arith, t.1) in
      rw e (highest_at x t.0 t.2 t.3)

-- ---- word k of a run

module _ (s : List ℕ) (at k x : ℕ) (word : x ≡ run_word s at k) (fits : x < 2 ^ 64) where
  -- without a one it leaves the count as it was
  pub none_below : x ≡ 0 → ones_below s at (64 * (k + 1)) ≡ ones_below s at (64 * k)
  unfolding ones
  none_below z =
      let o : ones x ≡ 0 = rw z in
      omega (arith, next_word s at k x word fits)

  -- else its highest one is the last below the next word
  pub last_below : 0 < x → OneAt s at (ones_below s at (64 * (k + 1)) - 1) (64 * k + (63 - count_leading_zeros 64 x))
  last_below some =
      let p : ℕ = 63 - count_leading_zeros 64 x in
      let t = leading_highest x some fits in
      let c = rw (← word) at (word_ones s at k p (omega arith)) in
      record {
        set = run_bit_lem s at k p (omega arith) ∙ rw (← word) t.set;
        below = omega (arith, c, t.others, next_word s at k x word fits);
      }

-- Laws of counts of ones.
use mathlib.Core.Path.{◌≡◌, refl, sym, ap, ◌∙◌, subst}
use mathlib.Core.Logic.{◌⊎◌, inl, inr}
use mathlib.Core.List.{List}
use Prim.Native.Nat.{ℕ, zero, suc, ◌+◌, ◌-◌, ◌*◌, ◌/◌, ◌%◌, ◌^◌, ◌≤◌, ◌<◌}
use native.Mathlib.Nat.{mod-lt, zero-lt-suc, add-zero, zero-add, add-suc, add_comm}
use native.Mathlib.Nat.{le_antisymm, le_of_suc-le-suc, lt_of_not-le, mod-one, mod-eq_of_lt}
use native.Mathlib.Omega.{arith}
use lib.ListN.{take, drop}
use lib.Pow.{pow_pos, mod-pow-add}
use lib.Count.{ones, ones_cat}
use Rattle.rules.specs.Runs.{bit, run_word, run_bit}
use Rattle.rules.specs.Counts.{ones_below}
use Rattle.laws.proofs.RunLaws.{run_bit_lem, run_cases, run_part}

-- ---- a word

ones_digit : (d : ℕ) → d < 2 → ones d ≡ d
unfolding ones
ones_digit zero h = refl
ones_digit (suc zero) h = refl
ones_digit (suc (suc d)) h = absurd (omega arith)

-- one bit more
pub ones_more : (x k : ℕ) → ones (x % 2 ^ suc k) ≡ bit x k + ones (x % 2 ^ k)
unfolding bit
ones_more x k =
    let s : 1 + k ≡ suc k = omega arith in
    subst (λ (n : ℕ). ones (x % 2 ^ n) ≡ x / 2 ^ k % 2 + ones (x % 2 ^ k)) s
    (ap ones (mod-pow-add x 1 k) ∙ ones_cat k (x / 2 ^ k % 2) (x % 2 ^ k) (mod-lt x (pow_pos k))
    ∙ ap (λ (y : ℕ). y + ones (x % 2 ^ k)) (ones_digit (x / 2 ^ k % 2) (mod-lt (x / 2 ^ k) (zero-lt-suc 1))))

-- the low bits of the low part and of the high part
pub ones_parts : (x a b : ℕ) → ones (x % 2 ^ (a + b)) ≡ ones (x % 2 ^ a) + ones (x / 2 ^ a % 2 ^ b)
ones_parts x a b =
    rw (add_comm a b, mod-pow-add x b a) (ones_cat a (x / 2 ^ a % 2 ^ b) (x % 2 ^ a) (mod-lt x (pow_pos a))
    ∙ add_comm (ones (x / 2 ^ a % 2 ^ b)) (ones (x % 2 ^ a)))

-- ---- any count that each place raises by 0 or 1

abbrev pub Steps : (ℕ → ℕ) → Type 0
Steps c = (j : ℕ) → (c (suc j) ≡ c j) ⊎ (c (suc j) ≡ suc (c j))

module _ (c : ℕ → ℕ) (steps : Steps c) where
  pub count_slope : (a d : ℕ) → c (a + d) ≤ c a + d
  count_slope a zero = rw add-zero (omega arith)
  count_slope a (suc d) = rw add-suc (elim (steps (a + d)) [
    | inl e ↦ omega (arith, count_slope a d, e)
    | inr e ↦ omega (arith, count_slope a d, e)
  ])

-- ---- a run

module _ (s : List ℕ) (at : ℕ) where
  pub below_none : ones_below s at 0 ≡ 0
  unfolding ones_below
  below_none = refl

  pub below_suc : (p : ℕ) → ones_below s at (suc p) ≡ ones_below s at p + run_bit s at p
  unfolding ones_below
  below_suc p = refl

pub word_ones : (s : List ℕ) (at k j : ℕ) → j ≤ 64
    → ones_below s at (64 * k + j) ≡ ones_below s at (64 * k) + ones (run_word s at k % 2 ^ j)
unfolding ones_below ones
word_ones s at k zero h = rw (add-zero, mod-one) (sym (add-zero (ones_below s at (64 * k))))
word_ones s at k (suc j) h =
    rw (add-suc, ones_more) (omega (arith, word_ones s at k j (omega arith), run_bit_lem s at k j h))

pub next_word : (s : List ℕ) (at k x : ℕ) → x ≡ run_word s at k → x < 2 ^ 64
    → ones_below s at (64 * (k + 1)) ≡ ones_below s at (64 * k) + ones x
next_word s at k x e l =
    let s64 : 64 * (k + 1) ≡ 64 * k + 64 = omega arith in
    rw s64 (word_ones s at k 64 (omega arith) ∙ rw (← e, mod-eq_of_lt l))

-- a run as a list of its own, of m bytes, which hold c words
pub ones_part : (s : List ℕ) (m at c : ℕ) → 8 * c ≤ m → (p : ℕ) → p ≤ 64 * c
    → ones_below (take m (drop at s)) 0 p ≡ ones_below s at p
unfolding ones_below
ones_part s m at c h zero l = refl
ones_part s m at c h (suc p) l = omega (arith, ones_part s m at c h p (omega arith), run_part s m at p (omega arith))

trichotomy : (p q : ℕ) → (p < q → ⊥) → (q < p → ⊥) → p ≡ q
trichotomy p q a b = le_antisymm (le_of_suc-le-suc (lt_of_not-le b)) (le_of_suc-le-suc (lt_of_not-le a))

-- ---- ones and zeros below a place; the zeros below i are i less the ones

pub run_steps : (s : List ℕ) (at : ℕ) → Steps (ones_below s at)
unfolding ones_below
run_steps s at j = elim (run_cases s at j) [ inl e ↦ inl (omega (arith, e)) | inr e ↦ inr (omega (arith, e)) ]

module _ (s : List ℕ) (at : ℕ) where
  -- one bit more is at most one more
  pub ones_slow : (a d : ℕ) → ones_below s at (a + d) ≤ ones_below s at a + d
  ones_slow = count_slope (ones_below s at) (run_steps s at)

  pub ones_below_le : (i : ℕ) → ones_below s at i ≤ i
  unfolding ones_below
  ones_below_le i = rw zero-add at (ones_slow 0 i)

  pub zero_later : (p q : ℕ) → p < q → run_bit s at p ≡ 0 → ones_below s at q + p < ones_below s at p + q
  unfolding ones_below
  zero_later p q h e =
      let t : suc p + (q - suc p) ≡ q = omega arith in
      subst (λ (n : ℕ). ones_below s at n + p < ones_below s at p + n) t (omega (arith, e, ones_slow (suc p) (q - suc p)))

  pub zero_unique : (p q : ℕ) → run_bit s at p ≡ 0 → run_bit s at q ≡ 0
      → ones_below s at p + q ≡ ones_below s at q + p → p ≡ q
  zero_unique p q a b e =
      trichotomy p q (λ h. omega (arith, zero_later p q h a)) (λ h. omega (arith, zero_later q p h b))

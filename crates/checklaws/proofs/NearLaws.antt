-- Laws of the ones of a word that have a neighbour below, in the word or at the end of the word before:
-- `x & ((x << 1) | carry)` has them.
use mathlib.Core.Logic.{◌⊎◌, inl, inr}
use mathlib.Core.Path.{◌≡◌, refl, sym, ap, ap₂, ◌∙◌}
use mathlib.Core.List.{List}
use Prim.Native.Nat.{ℕ, zero, suc, ◌+◌, ◌-◌, ◌*◌, ◌/◌, ◌%◌, ◌^◌, ◌<◌}
use native.Mathlib.Nat.{mod-eq_of_lt}
use native.Mathlib.Decide.{dec_lt}
use native.Mathlib.Omega.{arith}
use lib.Bits.{bit_and, bit_or, and_le_l, and_le_r, and_shr, and_mod, or_shifted}
use lib.Count.{count_trailing_zeros}
use lib.Pow.{pow_pos, shr_lt, high, low}
use Rattle.rules.specs.Runs.{bit, run_word, run_bit}
use Rattle.laws.proofs.BitLaws.{bit_zero, bit_suc, bit_mod, bit_beyond, one_zero, shl_keeps, tz_set, tz_lt}
use Rattle.laws.proofs.RunLaws.{run_bit_lem, run_cases}
use Rattle.checklaws.specs.Check.{bit_before, Spaced}

pub before_cases : (s : List ℕ) (at p : ℕ) → (bit_before s at p ≡ 0) ⊎ (bit_before s at p ≡ 1)
unfolding bit_before
before_cases s at zero = inl refl
before_cases s at (suc p) = run_cases s at p

bit_and_lem : (a b j : ℕ) → bit (bit_and a b) j ≡ bit_and (bit a j) (bit b j)
unfolding bit
bit_and_lem a b j = ap (λ (y : ℕ). y % 2) (and_shr a b j) ∙ and_mod (a / 2 ^ j) (b / 2 ^ j) 1

-- the word one bit on, with the carry below it
shifted_is : (x c : ℕ) → c < 2 → bit_or ((x * 2 ^ 1) % 2 ^ 64) c ≡ x % 2 ^ 63 * 2 + c
shifted_is x c h = rw (shl_keeps x 63 1) (or_shifted (x % 2 ^ 63) 1 c h)

shifted_zero : (x c : ℕ) → c < 2 → bit (x % 2 ^ 63 * 2 + c) 0 ≡ c
shifted_zero x c h = bit_zero (x % 2 ^ 63 * 2 + c) ∙ low (x % 2 ^ 63) 1 h

shifted_suc : (x c j : ℕ) → c < 2 → j < 63 → bit (x % 2 ^ 63 * 2 + c) (suc j) ≡ bit x j
shifted_suc x c j h u =
    bit_suc (x % 2 ^ 63 * 2 + c) j ∙ ap (λ (y : ℕ). bit y j) (high (x % 2 ^ 63) 1 h) ∙ bit_mod x 63 j u

module _ (s : List ℕ) (at k x c : ℕ) (is : x ≡ run_word s at k) (fits : x < 2 ^ 64)
    (carry : c ≡ bit_before s at (64 * k)) (small : c < 2) where
  abbrev near : ℕ
  near = bit_and x (bit_or ((x * 2 ^ 1) % 2 ^ 64) c)

  bit_at : (j : ℕ) → j < 64 → bit x j ≡ run_bit s at (64 * k + j)
  bit_at j h = rw is (sym (run_bit_lem s at k j h))

  before_at : (j : ℕ) → j < 64 → bit (bit_or ((x * 2 ^ 1) % 2 ^ 64) c) j ≡ bit_before s at (64 * k + j)
  unfolding bit_before
  before_at zero h =
      let e : 64 * k + 0 ≡ 64 * k = omega arith in
      rw (shifted_is x c small, e) (shifted_zero x c small ∙ carry)
  before_at (suc j) h =
      let e : suc (64 * k + j) ≡ 64 * k + suc j = omega arith in
      rw (shifted_is x c small)
      (shifted_suc x c j small (omega arith) ∙ bit_at j (omega arith) ∙ ap (bit_before s at) e)

  near_bit : (j : ℕ) → j < 64 → bit near j ≡ bit_and (run_bit s at (64 * k + j)) (bit_before s at (64 * k + j))
  near_bit j h = bit_and_lem x (bit_or ((x * 2 ^ 1) % 2 ^ 64) c) j ∙ ap₂ bit_and (bit_at j h) (before_at j h)

  -- no one has a neighbour
  pub near_none : bit_and x (bit_or ((x * 2 ^ 1) % 2 ^ 64) c) ≡ 0 → Spaced s at (64 * k) → Spaced s at (64 * (k + 1))
  near_none z f i h o b = elim (dec_lt i (64 * k)) [
    | yes u ↦ f i u o b
    | no u ↦
        let e : 64 * k + (i - 64 * k) ≡ i = omega arith in
        let n = rw (e, o, b) at (near_bit (i - 64 * k) (omega arith)) in
        let w : bit 0 (i - 64 * k) ≡ 1 = ap (λ (y : ℕ). bit y (i - 64 * k)) (sym z) ∙ n in
        one_zero w (none (i - 64 * k))
  ]
    where
      none : (j : ℕ) → bit 0 j ≡ 0
      none j = bit_beyond 0 j (pow_pos j)

  -- one has
  pub near_some : 0 < bit_and x (bit_or ((x * 2 ^ 1) % 2 ^ 64) c) → Spaced s at (64 * (k + 1)) → ⊥
  near_some p f =
      let t : ℕ = count_trailing_zeros 64 near in
      let l : t < 64 = tz_lt 64 near p (omega (arith, and_le_l x (bit_or ((x * 2 ^ 1) % 2 ^ 64) c))) in
      let o = sym (near_bit t l) ∙ tz_set 64 near l in
      let a = and_le_l (run_bit s at (64 * k + t)) (bit_before s at (64 * k + t)) in
      let b = and_le_r (run_bit s at (64 * k + t)) (bit_before s at (64 * k + t)) in
      f (64 * k + t) (omega arith) (set (run_cases s at (64 * k + t)) (omega (arith, a, o)))
      (set (before_cases s at (64 * k + t)) (omega (arith, b, o)))
    where
      set : {y : ℕ} → (y ≡ 0) ⊎ (y ≡ 1) → 0 < y → y ≡ 1
      set (inl e) h = absurd (omega arith)
      set (inr e) h = e

  -- the carry into the next word
  pub next_carry : x / 2 ^ 63 ≡ bit_before s at (64 * (k + 1))
  unfolding bit_before bit
  next_carry =
      let e : suc (64 * k + 63) ≡ 64 * (k + 1) = omega arith in
      sym (mod-eq_of_lt (shr_lt 1 63 fits)) ∙ bit_at 63 (omega arith) ∙ ap (bit_before s at) e

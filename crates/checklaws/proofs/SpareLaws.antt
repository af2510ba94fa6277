-- Laws of the bits from a place of a run to the end of its word.
use mathlib.Core.Path.{◌≡◌, sym, ap, ◌∙◌, subst}
use mathlib.Core.List.{List}
use Prim.Native.Nat.{ℕ, ◌+◌, ◌-◌, ◌*◌, ◌/◌, ◌%◌, ◌^◌, ◌≤◌, ◌<◌}
use native.Mathlib.Nat.{mod-eq_of_lt, div-lt_iff_lt-mul}
use native.Mathlib.Omega.{arith}
use lib.Pow.{pow_pos, shr_lt}
use Rattle.rules.specs.Runs.{bit, run_word, run_bit, words_for}
use Rattle.laws.proofs.BitLaws.{bit_above, bit_shr, bits_none}
use Rattle.laws.proofs.RunLaws.{run_bit_lem}
use Rattle.checklaws.specs.Check.{Tail, Clear}

pub clear_whole : (s : List ℕ) (at m : ℕ) → m % 64 ≡ 0 → Clear s at m
unfolding words_for
clear_whole s at m e i g h = absurd (omega arith)

module _ (s : List ℕ) (at m : ℕ) (some : 0 < m % 64) where
  pub tail_clear : Tail s at m → Clear s at m
  unfolding words_for
  tail_clear z i g h = z i g (omega arith)

  pub clear_tail : Clear s at m → Tail s at m
  unfolding words_for
  clear_tail z i g h = z i g (omega arith)

module _ (s : List ℕ) (at m x : ℕ) (e : x ≡ run_word s at (m / 64)) (fits : x < 2 ^ 64) where
  last : (i : ℕ) → m ≤ i → i < 64 * (m / 64 + 1) → run_bit s at i ≡ bit x (i % 64)
  last i g h =
      let q : 64 * (m / 64) + i % 64 ≡ i = omega arith in
      subst (λ (k : ℕ). run_bit s at k ≡ bit x (i % 64)) q
      (run_bit_lem s at (m / 64) (i % 64) (omega arith) ∙ ap (λ (y : ℕ). bit y (i % 64)) (sym e))

  pub shr_tail : x / 2 ^ (m % 64) ≡ 0 → Tail s at m
  shr_tail z i g h =
      let l : x < 1 * 2 ^ (m % 64) = (div-lt_iff_lt-mul (pow_pos (m % 64))).0 (omega (arith, z)) in
      last i g h ∙ bit_above x (m % 64) (i % 64) (omega (arith, l)) (omega arith)

  pub tail_shr : Tail s at m → x / 2 ^ (m % 64) ≡ 0
  tail_shr z =
      let b : ℕ = m % 64 in
      let f : 64 - b + b ≡ 64 = omega arith in
      sym (mod-eq_of_lt (shr_lt (64 - b) b (rw f fits))) ∙ bits_none (x / 2 ^ b) (64 - b) (λ j u.
      let i : ℕ = 64 * (m / 64) + (b + j) in
      let r : i % 64 ≡ b + j = omega arith in
      bit_shr x b j ∙ ap (bit x) (sym r) ∙ sym (last i (omega arith) (omega arith)) ∙ z i (omega arith) (omega arith))

-- Laws of decimal digits.
use mathlib.Core.Path.{◌≡◌, sym, ap, ◌∙◌}
use mathlib.Core.List.{List, [], ◌∷◌, ◌++◌}
use Prim.Native.Nat.{ℕ, zero, suc, ◌+◌, ◌/◌, ◌%◌, ◌^◌, ◌≤◌, ◌<◌}
use native.Mathlib.Nat.{mod-eq_of_lt, div-lt_iff_lt-mul, pow-suc, zero-lt-suc}
use native.Mathlib.Decide.{dec_lt}
use native.Mathlib.Omega.{arith}
use borrow.Author.Tests.{lt-ltb, le-ltb}
use lib.ListN.{length, set, length-append}
use Rattle.rules.specs.Program.{decimal, digits}
use Rattle.files.specs.Laid.{Put}
use Rattle.files.proofs.PutLaws.{put_one, put_cat, put_same}

module _ (f n : ℕ) where
  decimal_one : n < 10 → decimal (suc f) n ≡ (48 + n) ∷ []
  unfolding decimal
  decimal_one h = rw (lt-ltb n 10 h, decimal)

  decimal_tens : 10 ≤ n → decimal (suc f) n ≡ decimal f (n / 10) ++ ((48 + n % 10) ∷ [])
  unfolding decimal
  decimal_tens h = rw (le-ltb n 10 h, decimal)

decimal_last : (n : ℕ) → n < 10 → decimal zero n ≡ (48 + n) ∷ []
unfolding decimal
decimal_last n h = rw (mod-eq_of_lt h)

decimal_length : (f n : ℕ) → length (decimal f n) ≤ f + 1
unfolding decimal
decimal_length zero n = omega arith
decimal_length (suc f) n = elim (dec_lt n 10) [
  | yes h ↦ rw (decimal_one f n h) (omega arith)
  | no h ↦ rw (decimal_tens f n (omega arith), length-append) (omega (arith, decimal_length f (n / 10)))
]

-- a digit more than it needs changes nothing
decimal_more : (f n : ℕ) → n < 10 ^ (f + 1) → decimal (suc f) n ≡ decimal f n
decimal_more zero n h = decimal_one zero n h ∙ sym (decimal_last n h)
decimal_more (suc f) n h = elim (dec_lt n 10) [
  | yes g ↦ decimal_one (suc f) n g ∙ sym (decimal_one f n g)
  | no g ↦
      let k : suc f + 1 ≡ suc (f + 1) = omega arith in
      let e = decimal_more f (n / 10) ((div-lt_iff_lt-mul (zero-lt-suc 9)).1 (rw (k, pow-suc) at h)) in
      decimal_tens (suc f) n (omega arith) ∙ rw e (sym (decimal_tens f n (omega arith)))
]

-- ---- the digits of a number

pub digits_most : (n : ℕ) → length (digits n) ≤ 10
unfolding digits
digits_most n = decimal_length 9 n

module _ (n : ℕ) where
  digits_one : n < 10 → digits n ≡ (48 + n) ∷ []
  unfolding digits
  digits_one h = decimal_one 8 n h

  digits_tens : 10 ≤ n → n < 10 ^ 10 → digits n ≡ digits (n / 10) ++ ((48 + n % 10) ∷ [])
  unfolding digits
  digits_tens l h = decimal_tens 8 n l ∙ rw (decimal_more 8 (n / 10) (omega arith))

  pub one_length : n < 10 → length (digits n) ≡ 1
  one_length h = ap length (digits_one h)

  pub tens_length : 10 ≤ n → n < 10 ^ 10 → length (digits n) ≡ length (digits (n / 10)) + 1
  tens_length l h = ap length (digits_tens l h) ∙ rw length-append

  pub put_digit : (at : ℕ) (d : List ℕ) → n < 10 → Put (digits n) at (at + 1) d (set d at (48 + n))
  put_digit at d h = put_same (sym (digits_one h)) (put_one (48 + n) at d)

  pub put_digits : {at m : ℕ} {d e : List ℕ} → 10 ≤ n → n < 10 ^ 10 → Put (digits (n / 10)) at m d e
      → Put (digits n) at (m + 1) d (set e m (48 + n % 10))
  put_digits {m = m} {e = e} l h p = put_same (sym (digits_tens l h)) (put_cat p (put_one (48 + n % 10) m e))

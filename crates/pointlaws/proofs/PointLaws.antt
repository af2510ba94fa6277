-- Laws of the place after a zero: by its count, cut off at the run's end; in a word; and in a run, word by word.
use mathlib.Core.Path.{◌≡◌, refl, sym, ◌∙◌}
use mathlib.Core.Logic.{inl, inr}
use mathlib.Core.List.{List}
use Prim.Native.Nat.{ℕ, zero, suc, ◌+◌, ◌-◌, ◌*◌, ◌^◌, ◌≤◌, ◌<◌, min}
use native.Mathlib.Nat.{min-eq_left, min-eq_right, mod-eq_of_lt}
use native.Mathlib.Decide.{dec_lt}
use native.Mathlib.Omega.{arith}
use native.Mathlib.Numerals.{add-one}
use lib.Count.{ones}
use Rattle.rules.specs.Bytes.{Bytes}
use Rattle.rules.specs.Runs.{bit, run_word}
use Rattle.rules.specs.List.{after_zero}
use Rattle.rules.specs.InPlace.{number_of}
use Rattle.laws.proofs.BitLaws.{bit_cases}
use Rattle.laws.proofs.CountLaws.{count_slope, ones_more}
use Rattle.fields.specs.Words.{place_of_one, place_of_zero}
use Rattle.fields.proofs.WordLaws.{complement_ones, zero_bit, zero_ones}
use Rattle.listlaws.specs.Sound.{ones_to, After}
use Rattle.listlaws.proofs.AfterLaws.{ones_steps, ones_none, after_le, after_unique, after_suc, after_from}
use Rattle.listlaws.proofs.AfterLaws.{after_zero_start}
use Rattle.pointlaws.specs.declared.Passed.{Passed}
use Rattle.pointlaws.specs.Pointing.{Before, Reached}
use Rattle.pointlaws.proofs.NumberLaws.{number_ones, number_next}

-- ---- by its count

module _ (u : ℕ) where
  ones_rise : (a d : ℕ) → ones_to u (a + d) ≤ ones_to u a + d
  ones_rise = count_slope (ones_to u) (ones_steps u)

  -- fewer than k zeros among the b bits from place p on
  none_from : (b k p : ℕ) → b + ones_to u p < k + ones_to u (p + b) → after_zero b u k p ≡ p + b
  unfolding after_zero
  none_from zero k p h = omega arith
  none_from (suc b) zero p h = absurd (omega (arith, ones_rise p (suc b)))
  none_from (suc b) (suc k) p h =
      let s : p + suc b ≡ p + 1 + b = omega arith in
      let one : suc p ≡ p + 1 = omega arith in
      let g = rw s at h in
      let m = rw one at (ones_more u p) in
      elim (bit_cases u p) [
        | inl z ↦ rw (z, after_zero, s) (none_from b k (p + 1) (omega (arith, m, z, g)))
        | inr z ↦ rw (z, after_zero, s) (none_from b (suc k) (p + 1) (omega (arith, m, z, g)))
      ]

  -- fewer than h zeros below b
  after_end : (b h : ℕ) → b < h + ones_to u b → after_zero b u h 0 ≡ b
  after_end b h l =
      let e : 0 + b ≡ b = omega arith in
      rw e at (none_from b h 0 (rw e (omega (arith, ones_none u))))

  -- and where the zero is known, within the b bits or behind them
  after_min : (b h p : ℕ) → After (ones_to u) h p → min b p ≡ after_zero b u h 0
  after_min b h p a = elim (dec_lt b p) [
    | yes l ↦ min-eq_left (omega arith) ∙ sym (after_end b h (elim (dec_lt b (h + ones_to u b)) [
      | yes g ↦ g
      | no g ↦ absurd (omega (arith, after_le (ones_to u) (ones_steps u) h p a b (omega arith)))
    ]))
    | no l ↦
        let e : p + (b - p) ≡ b = omega arith in
        let r = rw e at (ones_rise p (b - p)) in
        min-eq_right (omega arith)
        ∙ after_unique (ones_to u) (ones_steps u) h p (after_zero b u h 0) a
        (after_zero_start u b h (omega (arith, r, a.counted)))
  ]

  -- it is never behind the b bits
  pub after_most : (b k p : ℕ) → after_zero b u k p ≤ p + b
  unfolding after_zero
  after_most zero k p = omega arith
  after_most (suc b) zero p = omega arith
  after_most (suc b) (suc k) p = elim (bit_cases u p) [
    | inl z ↦ rw (z, after_zero) (omega (arith, after_most b k (p + 1)))
    | inr z ↦ rw (z, after_zero) (omega (arith, after_most b (suc k) (p + 1)))
  ]

-- ---- in a word

-- its zeros and its ones
pub word_zeros : (x : ℕ) → x < 2 ^ 64 → ones (2 ^ 64 - 1 - x) + ones x ≡ 64
word_zeros x l =
    let other : 2 ^ 64 - 1 - x < 2 ^ 64 = omega arith in
    rw (mod-eq_of_lt l, mod-eq_of_lt other) at (complement_ones 64 x 64 l (omega arith))

-- zero number j, counted from 0
pub word_after : (x j p : ℕ) → x < 2 ^ 64 → p ≡ place_of_one 64 (2 ^ 64 - 1 - x) j → p < 64
    → After (ones_to x) (j + 1) (p + 1)
unfolding place_of_zero
word_after x j p l e h =
    let z : bit x p ≡ 0 = rw e (zero_bit 64 x l j (rw e at h)) in
    let o : ones_to x p + j ≡ p = rw e (zero_ones 64 x l j (rw e at h)) in
    rw (add-one p) (after_from x (j + 1) p z (omega arith))

-- ---- word by word

module _ (m h : ℕ) (s : List ℕ) (x : Passed) (before : Before (number_of m s) m h x) where
  -- the words end
  pub reached_end : m ≤ x.words → Reached (number_of m s) m h x
  reached_end l = record { before = before; next = λ g. absurd (omega arith) }

  -- and so do the run's b bits
  pub place_end : (b : ℕ) → b ≤ 64 * x.words → after_zero b (number_of m s) h 0 ≡ b
  place_end b l =
      let e : b + (64 * x.words - b) ≡ 64 * x.words = omega arith in
      let r = rw e at (ones_rise (number_of m s) b (64 * x.words - b)) in
      after_end (number_of m s) b h (omega (arith, r, before.counted, before.short))

  module _ (b : Bytes s) (inside : x.words < m) (word : ℕ) (is : word ≡ run_word s 0 x.words) where
    -- t zeros up to the end of the word, fewer than h
    pub pass_word : (t : ℕ) → t + ones word ≡ x.zeros + 64 → t < h
        → Before (number_of m s) m h (record { words = x.words + 1; zeros = t })
    pass_word t e l =
        let n = number_next m x.words word s b inside is in
        record { within = omega arith; counted = omega (arith, n, before.counted); short = l }

    -- h or more
    pub reached_word : (t : ℕ) → t + ones word ≡ x.zeros + 64 → h ≤ t → Reached (number_of m s) m h x
    reached_word t e l =
        let n = number_next m x.words word s b inside is in
        record { before = before; next = λ g. omega (arith, n, before.counted) }

    -- the zero is among the word's
    pub reached_in : Reached (number_of m s) m h x → h + ones word ≤ x.zeros + 64
    reached_in r =
        let n = number_next m x.words word s b inside is in
        omega (arith, n, before.counted, r.next inside)

    -- it has number j there, and the place after it is p
    pub place_word : (j p c : ℕ) → x.zeros + j ≡ h → After (ones_to word) j p → p ≤ 64
        → min c (64 * x.words + p) ≡ after_zero c (number_of m s) h 0
    place_word j zero c e a l = absurd (omega (arith, a.counted, before.short, ones_none word))
    place_word j (suc p) c e a l =
        let k : ℕ = x.words in
        let g : 64 * k + suc p ≡ suc (64 * k + p) = omega arith in
        let n = rw g at (number_ones m k word s b inside is (suc p) l) in
        let n' = number_ones m k word s b inside is p (omega arith) in
        let z = a.zero_last p refl in
        rw g (after_min (number_of m s) c h (suc (64 * k + p))
        (after_suc (ones_to (number_of m s)) h (64 * k + p) (omega (arith, n, n', z))
        (omega (arith, n', z, a.counted, before.counted))))

-- ---- from one zero to a later one

pub before_none : (u m h : ℕ) → 0 < h → Before u m h (record { words = 0; zeros = 0 })
before_none u m h l = record { within = omega arith; counted = omega (arith, ones_none u); short = l }

pub before_later : (u m h k : ℕ) (x : Passed) → Reached u m h x → h ≤ k → Before u m k x
before_later u m h k x r l =
    let b = r.before in
    record { within = b.within; counted = b.counted; short = omega (arith, b.short) }

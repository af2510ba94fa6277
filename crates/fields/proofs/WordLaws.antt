-- Laws of the places of bits in a word: by the lowest bit; by trailing zeros; that a place is there, what is there
-- and below it, and that no other place is so; by parts of the word; the first one from a place on; zeros as the
-- complement's ones; the places in a run.
-- Counts byte by byte are in ByteLaws of `selectlaws`, ones and zeros below a place of a run in CountLaws of `laws`.
use mathlib.Core.Path.{◌≡◌, refl, sym, ap, ◌∙◌, subst}
use mathlib.Core.Logic.{inl, inr}
use mathlib.Core.List.{List}
use Prim.Native.Nat.{ℕ, zero, suc, ◌+◌, ◌-◌, ◌*◌, ◌/◌, ◌%◌, ◌^◌, ◌≤◌, ◌<◌}
use native.Mathlib.Nat.{zero-add, mul-one, mod-one, div-one, pow-suc, pow-succ'}
use native.Mathlib.Nat.{div-div-eq-div-mul}
use native.Mathlib.Numerals.{add-one}
use native.Mathlib.Omega.{arith}
use lib.Bits.{shifted_half, shifted_even}
use lib.Pow.{mod-mod-pow, field}
use lib.Count.{count_trailing_zeros, ones, ones_step}
use Rattle.rules.specs.Runs.{bit, run_word, run_bit}
use Rattle.rules.specs.Counts.{ones_below}
use Rattle.laws.proofs.BitLaws.{bit_zero, bit_suc, bit_shr, tz_below, digit}
use Rattle.laws.proofs.RunLaws.{run_bit_lem}
use Rattle.laws.proofs.CountLaws.{word_ones}
use Rattle.fields.specs.Words.{place_of_one, place_of_zero, next_one}

-- ---- one bit more

module _ (k x : ℕ) where
  pub place_past : (j : ℕ) → x % 2 ≡ 0 → place_of_one (suc k) x j ≡ suc (place_of_one k (x / 2) j)
  unfolding place_of_one
  place_past j e = rw (e, place_of_one)

  pub place_here : x % 2 ≡ 1 → place_of_one (suc k) x 0 ≡ 0
  unfolding place_of_one
  place_here e = rw (e, place_of_one)

  pub place_next : (j : ℕ) → x % 2 ≡ 1 → place_of_one (suc k) x (suc j) ≡ suc (place_of_one k (x / 2) j)
  unfolding place_of_one
  place_next j e = rw (e, place_of_one)

-- ---- the first one

pub place_trailing : (k x : ℕ) → count_trailing_zeros k x ≡ place_of_one k x 0
unfolding count_trailing_zeros place_of_one
place_trailing zero x = refl
place_trailing (suc k) x =
    elim (digit x) [
      | inl e ↦ rw (place_past k x 0 e, e, count_trailing_zeros) (ap suc (place_trailing k (x / 2)))
      | inr e ↦ rw (place_here k x e, e, count_trailing_zeros)
    ]

pub place_shl : (f k y j : ℕ) → place_of_one (f + k) (y * 2 ^ f) j ≡ f + place_of_one k y j
place_shl zero k y j = rw (zero-add, mul-one, zero-add)
place_shl (suc f) k y j =
    let e : suc f + k ≡ suc (f + k) = omega arith in
    let d : suc f + place_of_one k y j ≡ suc (f + place_of_one k y j) = omega arith in
    rw (e, d, place_past (f + k) (y * 2 ^ suc f) j (shifted_even y f), shifted_half) (ap suc (place_shl f k y j))

-- that of what is left once the low bits are 0
pub next_from : (x i : ℕ) → i < 64 → count_trailing_zeros 64 (x / 2 ^ i * 2 ^ i) ≡ next_one 64 x i
unfolding next_one
next_from x i h =
    let s : i + (64 - i) ≡ 64 = omega arith in
    place_trailing 64 (x / 2 ^ i * 2 ^ i)
    ∙ subst (λ (k : ℕ). place_of_one k (x / 2 ^ i * 2 ^ i) 0 ≡ i + place_of_one (64 - i) (x / 2 ^ i) 0) s
    (place_shl i (64 - i) (x / 2 ^ i) 0)

-- ---- where it is

-- the low bits, by the lowest of them
low_odd : (x p : ℕ) → x % 2 ^ suc p % 2 ≡ x % 2
low_odd x p = rw (← add-one p) (mod-mod-pow x p 1)

low_half : (x p : ℕ) → x % 2 ^ suc p / 2 ≡ x / 2 % 2 ^ p
low_half x p = rw (← add-one p) (field x p 1)

ones_low : (x p : ℕ) → ones (x % 2 ^ suc p) ≡ x % 2 + ones (x / 2 % 2 ^ p)
ones_low x p = ones_step (x % 2 ^ suc p) ∙ rw (low_odd, low_half)

-- the place that the lowest bit and the place among the others give
place_cases : (P : ℕ → ℕ → Type 0) (k x : ℕ) → ((j : ℕ) → x % 2 ≡ 0 → P j (suc (place_of_one k (x / 2) j)))
    → (x % 2 ≡ 1 → P 0 0) → ((j : ℕ) → x % 2 ≡ 1 → P (suc j) (suc (place_of_one k (x / 2) j))) → (j : ℕ)
    → P j (place_of_one (suc k) x j)
place_cases P k x past here next j = elim (digit x) [ inl e ↦ rw (place_past k x j e) (past j e) | inr e ↦ go e j ]
  where
    go : x % 2 ≡ 1 → (j : ℕ) → P j (place_of_one (suc k) x j)
    go e zero = rw (place_here k x e) (here e)
    go e (suc j) = rw (place_next k x j e) (next j e)

pub place_le : (k x j : ℕ) → place_of_one k x j ≤ k
unfolding place_of_one
place_le zero x = λ j. omega arith
place_le (suc k) x =
    place_cases (λ j p. p ≤ suc k) k x (λ j e. omega (arith, place_le k (x / 2) j)) (λ e. omega arith)
    (λ j e. omega (arith, place_le k (x / 2) j))

pub place_bit : (k x j : ℕ) → place_of_one k x j < k → bit x (place_of_one k x j) ≡ 1
unfolding place_of_one
place_bit zero x = λ j h. absurd (omega arith)
place_bit (suc k) x =
    place_cases (λ j p. p < suc k → bit x p ≡ 1) k x
    (λ j e h. bit_suc x (place_of_one k (x / 2) j) ∙ place_bit k (x / 2) j (omega arith))
    (λ e h. bit_zero x ∙ e)
    (λ j e h. bit_suc x (place_of_one k (x / 2) j) ∙ place_bit k (x / 2) j (omega arith))

pub place_ones : (k x j : ℕ) → place_of_one k x j < k → ones (x % 2 ^ place_of_one k x j) ≡ j
unfolding place_of_one ones
place_ones zero x = λ j h. absurd (omega arith)
place_ones (suc k) x =
    place_cases (λ j p. p < suc k → ones (x % 2 ^ p) ≡ j) k x
    (λ j e h. ones_low x (place_of_one k (x / 2) j) ∙ omega (arith, place_ones k (x / 2) j (omega arith)))
    (λ e h. ap ones (mod-one x))
    (λ j e h. ones_low x (place_of_one k (x / 2) j) ∙ omega (arith, place_ones k (x / 2) j (omega arith)))

pub place_none : (k x j : ℕ) → ones (x % 2 ^ k) ≤ j → place_of_one k x j ≡ k
unfolding place_of_one
place_none zero x = λ j h. refl
place_none (suc k) x =
    place_cases (λ j p. ones (x % 2 ^ suc k) ≤ j → p ≡ suc k) k x
    (λ j e h. ap suc (place_none k (x / 2) j (omega (arith, ones_low x k))))
    (λ e h. absurd (omega (arith, ones_low x k)))
    (λ j e h. ap suc (place_none k (x / 2) j (omega (arith, ones_low x k))))

pub place_some : (k x j : ℕ) → j < ones (x % 2 ^ k) → place_of_one k x j < k
unfolding place_of_one ones
place_some zero x = λ j h. absurd (omega (arith, ap ones (mod-one x)))
place_some (suc k) x =
    place_cases (λ j p. j < ones (x % 2 ^ suc k) → p < suc k) k x
    (λ j e h. omega (arith, place_some k (x / 2) j (omega (arith, ones_low x k))))
    (λ e h. omega arith)
    (λ j e h. omega (arith, place_some k (x / 2) j (omega (arith, ones_low x k))))

pub place_mod : (k x j : ℕ) → place_of_one k (x % 2 ^ k) j ≡ place_of_one k x j
unfolding place_of_one
place_mod zero x = λ j. refl
place_mod (suc k) x =
    let y : ℕ = x % 2 ^ suc k in
    let rest : (j : ℕ) → suc (place_of_one k (y / 2) j) ≡ suc (place_of_one k (x / 2) j) =
    λ j. rw low_half (ap suc (place_mod k (x / 2) j)) in
    place_cases (λ j p. place_of_one (suc k) y j ≡ p) k x
    (λ j e. place_past k y j (low_odd x k ∙ e) ∙ rest j)
    (λ e. place_here k y (low_odd x k ∙ e))
    (λ j e. place_next k y j (low_odd x k ∙ e) ∙ rest j)

-- among the low bits, and above them
pub place_low : (a b x j : ℕ) → j < ones (x % 2 ^ a) → place_of_one (a + b) x j ≡ place_of_one a x j
unfolding ones
place_low zero b x j h = absurd (omega (arith, ap ones (mod-one x)))
place_low (suc a) b x j h =
    let s : suc a + b ≡ suc (a + b) = omega arith in
    rw s
    (place_cases (λ i p. i < ones (x % 2 ^ suc a) → place_of_one (suc (a + b)) x i ≡ p) a x
    (λ i e g. place_past (a + b) x i e ∙ ap suc (place_low a b (x / 2) i (omega (arith, ones_low x a))))
    (λ e g. place_here (a + b) x e)
    (λ i e g. place_next (a + b) x i e ∙ ap suc (place_low a b (x / 2) i (omega (arith, ones_low x a)))) j h)

pub place_high : (a b x j : ℕ) → place_of_one (a + b) x (ones (x % 2 ^ a) + j) ≡ a + place_of_one b (x / 2 ^ a) j
unfolding ones
place_high zero b x j = rw (mod-one, div-one, zero-add, zero-add, zero-add)
place_high (suc a) b x j =
    let s : suc a + b ≡ suc (a + b) = omega arith in
    let t : suc a + place_of_one b (x / 2 ^ suc a) j ≡ suc (a + place_of_one b (x / 2 ^ suc a) j) = omega arith in
    let ih : place_of_one (a + b) (x / 2) (ones (x / 2 % 2 ^ a) + j) ≡ a + place_of_one b (x / 2 ^ suc a) j =
    place_high a b (x / 2) j ∙ rw (pow-succ', div-div-eq-div-mul) in
    rw (s, t, ones_low x a)
    (elim (digit x) [
      | inl e ↦ rw (e, zero-add) (place_past (a + b) x (ones (x / 2 % 2 ^ a) + j) e ∙ ap suc ih)
      | inr e ↦
          let o : 1 + ones (x / 2 % 2 ^ a) + j ≡ suc (ones (x / 2 % 2 ^ a) + j) = omega arith in
          rw (e, o) (place_next (a + b) x (ones (x / 2 % 2 ^ a) + j) e ∙ ap suc ih)
    ])

-- the ones that are left once the low bits are 0
pub place_from : (x d j : ℕ) → d ≤ 64 → place_of_one 64 (x / 2 ^ d * 2 ^ d) j ≡ place_of_one 64 x (ones (x % 2 ^ d) + j)
place_from x d j h =
    let s : d + (64 - d) ≡ 64 = omega arith in
    subst (λ (n : ℕ). place_of_one n (x / 2 ^ d * 2 ^ d) j ≡ place_of_one n x (ones (x % 2 ^ d) + j)) s
    (place_shl d (64 - d) (x / 2 ^ d) j ∙ sym (place_high d (64 - d) x j))

-- ---- the first one at or after a place

pub next_after : (k x i : ℕ) → i ≤ next_one k x i
unfolding next_one
next_after k x i = omega arith

pub next_le : (k x i : ℕ) → i ≤ k → next_one k x i ≤ k
unfolding next_one
next_le k x i h = omega (arith, place_le (k - i) (x / 2 ^ i) 0)

pub next_bit : (k x i : ℕ) → next_one k x i < k → bit x (next_one k x i) ≡ 1
unfolding next_one
next_bit k x i h = sym (bit_shr x i (place_of_one (k - i) (x / 2 ^ i) 0)) ∙ place_bit (k - i) (x / 2 ^ i) 0 (omega arith)

pub next_zeros : (k x i q : ℕ) → i ≤ q → q < next_one k x i → bit x q ≡ 0
unfolding next_one
next_zeros k x i q l h =
    let s : i + (q - i) ≡ q = omega arith in
    let b : q - i < count_trailing_zeros (k - i) (x / 2 ^ i) = rw place_trailing (omega arith) in
    subst (λ (n : ℕ). bit x n ≡ 0) s (sym (bit_shr x i (q - i)) ∙ tz_below (k - i) (x / 2 ^ i) (q - i) b)

-- ---- the zeros of a word: the ones of its complement

half_lt : (k x : ℕ) → x < 2 ^ suc k → x / 2 < 2 ^ k
half_lt k x h = omega (arith, rw pow-suc at h)

complement_odd : (k x : ℕ) → x < 2 ^ suc k → (2 ^ suc k - 1 - x) % 2 + x % 2 ≡ 1
complement_odd k x h = rw pow-suc (omega (arith, rw pow-suc at h))

complement_half : (k x : ℕ) → x < 2 ^ suc k → (2 ^ suc k - 1 - x) / 2 ≡ 2 ^ k - 1 - x / 2
complement_half k x h = rw pow-suc (omega (arith, rw pow-suc at h))

pub complement_ones : (k x i : ℕ) → x < 2 ^ k → i ≤ k → ones ((2 ^ k - 1 - x) % 2 ^ i) + ones (x % 2 ^ i) ≡ i
unfolding ones
complement_ones k x zero h l = rw (mod-one, mod-one)
complement_ones zero x (suc i) h l = absurd (omega arith)
complement_ones (suc k) x (suc i) h l =
    rw (ones_low (2 ^ suc k - 1 - x) i, ones_low x i, complement_half k x h)
    (omega (arith, complement_odd k x h, complement_ones k (x / 2) i (half_lt k x h) (omega arith)))

complement_bit : (k x i : ℕ) → x < 2 ^ k → i < k → bit (2 ^ k - 1 - x) i + bit x i ≡ 1
complement_bit zero x i h l = absurd (omega arith)
complement_bit (suc k) x zero h l = rw (bit_zero, bit_zero) (complement_odd k x h)
complement_bit (suc k) x (suc i) h l =
    rw (bit_suc, bit_suc, complement_half k x h) (complement_bit k (x / 2) i (half_lt k x h) (omega arith))

module _ (k x : ℕ) (fits : x < 2 ^ k) where
  pub zero_bit : (j : ℕ) → place_of_zero k x j < k → bit x (place_of_zero k x j) ≡ 0
  unfolding place_of_zero
  zero_bit j h = omega (arith, place_bit k (2 ^ k - 1 - x) j h, complement_bit k x (place_of_zero k x j) fits h)

  pub zero_ones : (j : ℕ) → place_of_zero k x j < k → ones (x % 2 ^ place_of_zero k x j) + j ≡ place_of_zero k x j
  unfolding place_of_zero
  zero_ones j h = omega (
    arith,
    place_ones k (2 ^ k - 1 - x) j h,
    complement_ones k x (place_of_zero k x j) fits (omega arith),
  )

-- ---- the places in word k of a run

module _ (s : List ℕ) (at k j x : ℕ) (word : x ≡ run_word s at k) where
  pub run_one : place_of_one 64 x j < 64 → (run_bit s at (64 * k + place_of_one 64 x j) ≡ 1)
      × (ones_below s at (64 * k + place_of_one 64 x j) ≡ ones_below s at (64 * k) + j)
  run_one h =
      let p : ℕ = place_of_one 64 x j in (
        run_bit_lem s at k p h ∙ rw (← word) (place_bit 64 x j h),
        word_ones s at k p (omega arith)
            ∙ rw (← word) (ap (λ (n : ℕ). ones_below s at (64 * k) + n) (place_ones 64 x j h)),
      )

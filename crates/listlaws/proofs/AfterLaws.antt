-- Laws of the place after a zero, over any count of ones;
-- the count of a number and that of a run; pointers and their bytes.
use mathlib.Core.Path.{◌≡◌, refl, sym, ap, ◌∙◌}
use mathlib.Core.Logic.{inl, inr}
use mathlib.Core.List.{List, ◌++◌, append_assoc}
use Prim.Native.Nat.{ℕ, zero, suc, ◌+◌, ◌-◌, ◌*◌, ◌%◌, ◌^◌, ◌≤◌, ◌<◌}
use native.Mathlib.Nat.{zero-add, add-zero, le_antisymm, mod-one}
use native.Mathlib.Decide.{dec_lt}
use native.Mathlib.Omega.{arith}
use lib.Count.{ones}
use lib.Dec.{lit<}
use lib.ListN.{length, length-append}
use Rattle.rules.specs.Bytes.{Bytes, be, be_at}
use Rattle.rules.specs.Runs.{bit, run_bit}
use Rattle.rules.specs.Counts.{ones_below}
use Rattle.rules.specs.List.{after_zero, pointer, fours}
use Rattle.laws.proofs.BitLaws.{bit_cases}
use Rattle.laws.proofs.ByteLaws.{bytes_be, bytes_cat, be_at_past, length_be, read_be}
use Rattle.laws.proofs.CountLaws.{Steps, count_slope, ones_more, below_suc}
use Rattle.listlaws.specs.Sound.{ones_to, After}

-- ---- any count that each place raises by 0 or 1

module _ (c : ℕ → ℕ) (steps : Steps c) where
  module _ (k q : ℕ) (a : After c k q) where
    -- fewer than k zeros below x
    pub after_lt : (x : ℕ) → x < k + c x → x < q
    after_lt x h =
        elim (dec_lt x q) [
          | yes l ↦ l
          | no g ↦
              let e : q + (x - q) ≡ x = omega arith in
              absurd (omega (arith, rw e at (count_slope c steps q (x - q)), a.counted))
        ]

    -- at least k zeros below x
    pub after_le : (x : ℕ) → k + c x ≤ x → q ≤ x
    after_le x h =
        elim (dec_lt x q) [
          | yes l ↦
              let e : x + (q - 1 - x) ≡ q - 1 = omega arith in
              let g : suc (q - 1) ≡ q = omega arith in
              let z = rw g at (a.zero_last (q - 1) g) in
              absurd (omega (arith, rw e at (count_slope c steps x (q - 1 - x)), a.counted, z))
          | no g ↦ omega arith
        ]

  -- one place is after zero number k
  pub after_unique : (k q r : ℕ) → After c k q → After c k r → q ≡ r
  after_unique k q r a b =
      le_antisymm (after_le k q a r (omega (arith, b.counted))) (after_le k r b q (omega (arith, a.counted)))

-- a place that a zero ends
pub after_suc : (c : ℕ → ℕ) (k j : ℕ) → c (suc j) ≡ c j → k + c j ≡ suc j → After c k (suc j)
after_suc c k j z e = record {
  counted = omega arith;
  zero_last = λ i g.
      let r : j ≡ i = omega arith in
      rw r at z;
}

-- two counts that agree up to a place
pub after_agree : (c d : ℕ → ℕ) (k q : ℕ) → ((p : ℕ) → p ≤ q → c p ≡ d p) → After c k q → After d k q
after_agree c d k q e a = record {
  counted = ap (λ (x : ℕ). k + x) (sym (e q (omega arith))) ∙ a.counted;
  zero_last = λ j g. sym (e (suc j) (omega arith)) ∙ a.zero_last j g ∙ e j (omega arith);
}

-- ---- the count of a number and that of a run

pub ones_steps : (u : ℕ) → Steps (ones_to u)
ones_steps u j = elim (bit_cases u j) [
  | inl e ↦ inl (omega (arith, ones_more u j, e))
  | inr e ↦ inr (omega (arith, ones_more u j, e))
]

pub ones_none : (u : ℕ) → ones_to u 0 ≡ 0
unfolding ones
ones_none u = rw mod-one

-- the bit before such a place is 0, and with the count that is all
module _ (u k j : ℕ) where
  pub after_from : bit u j ≡ 0 → k + ones_to u j ≡ suc j → After (ones_to u) k (suc j)
  after_from z e = after_suc (ones_to u) k j (omega (arith, ones_more u j)) e

module _ (s : List ℕ) (at k j : ℕ) where
  pub run_after_from : run_bit s at j ≡ 0 → k + ones_below s at j ≡ suc j → After (ones_below s at) k (suc j)
  run_after_from z e = after_suc (ones_below s at) k j (omega (arith, below_suc s at j)) e

-- a run and a number with the same bits
pub count_agree : (s : List ℕ) (at u b : ℕ) → ((i : ℕ) → i < b → run_bit s at i ≡ bit u i) → (p : ℕ) → p ≤ b
    → ones_below s at p ≡ ones_to u p
unfolding ones_below
count_agree s at u b e zero h = sym (ones_none u)
count_agree s at u b e (suc p) h =
    omega (arith, count_agree s at u b e p (omega arith), ones_more u p, e p (omega arith))

-- ---- after zero number k of the b bits of u from place p on, below which are h zeros

pub zero_none : (b u p : ℕ) → after_zero b u 0 p ≡ p
unfolding after_zero
zero_none zero u p = refl
zero_none (suc b) u p = refl

module _ (u : ℕ) where
  -- what is to be shown of b bits
  abbrev Reached : ℕ → Type 0
  Reached b = (k p h : ℕ) → h + ones_to u p ≡ p → 0 < k → k + ones_to u (p + b) ≤ b + ones_to u p
      → After (ones_to u) (h + k) (after_zero b u k p)

  past_zero : (b k p h : ℕ) → Reached b → h + ones_to u p ≡ p → bit u p ≡ 0 → k + ones_to u (suc p + b) ≤ b + ones_to u p
      → After (ones_to u) (h + suc k) (after_zero b u k (suc p))
  past_zero b zero p h ih e z l =
      rw (zero_none b u (suc p)) (after_from u (h + 1) p z (omega arith))
  past_zero b (suc k) p h ih e z l =
      let r : h + 1 + suc k ≡ h + suc (suc k) = omega arith in
      let m = ones_more u p in
      rw r at (ih (suc k) (suc p) (h + 1) (omega (arith, m, z)) (omega arith) (omega (arith, m, z, l)))

  one_more : (b : ℕ) → Reached b → Reached (suc b)
  unfolding after_zero
  one_more b ih zero p h e g l = absurd (omega arith)
  one_more b ih (suc k) p h e g l =
      let s : p + suc b ≡ suc p + b = omega arith in
      let one : p + 1 ≡ suc p = omega arith in
      let l' = rw s at l in
      let m = ones_more u p in
      elim (bit_cases u p) [
        | inl z ↦ rw (z, after_zero, one) (past_zero b k p h ih e z (omega (arith, l')))
        | inr z ↦ rw (z, after_zero, one) (ih (suc k) (suc p) h (omega (arith, m, z)) g (omega (arith, m, z, l')))
      ]

  pub after_zero_is : (b k p h : ℕ) → h + ones_to u p ≡ p → 0 < k → k + ones_to u (p + b) ≤ b + ones_to u p
      → After (ones_to u) (h + k) (after_zero b u k p)
  after_zero_is zero k p h e g l =
      let z : p + 0 ≡ p = omega arith in
      absurd (omega (arith, rw z at l))
  after_zero_is (suc b) k p h e g l = one_more b (after_zero_is b) k p h e g l

-- from the start, and for k = 0 too
pub after_zero_start : (u b k : ℕ) → k + ones_to u b ≤ b → After (ones_to u) k (after_zero b u k 0)
after_zero_start u b zero l = rw zero_none (record {
  counted = zero-add (ones_to u 0) ∙ ones_none u;
  zero_last = λ j g. absurd (omega arith);
})
after_zero_start u b (suc k) l =
    let z : 0 + b ≡ b = omega arith in
    let n = ones_none u in
    rw (zero-add (suc k)) at (after_zero_is u b (suc k) 0 0 (omega arith) (omega arith) (rw z (omega arith)))

pub after_zero_le : (u b k : ℕ) → k + ones_to u b ≤ b → after_zero b u k 0 ≤ b
after_zero_le u b k l = after_le (ones_to u) (ones_steps u) k (after_zero b u k 0) (after_zero_start u b k l) b l

-- the same of a run with those bits
pub run_after : (s : List ℕ) (at u b k : ℕ) → ((i : ℕ) → i < b → run_bit s at i ≡ bit u i) → k + ones_below s at b ≤ b
    → After (ones_below s at) k (after_zero b u k 0)
run_after s at u b k e l =
    let c = count_agree s at u b e in
    let l' : k + ones_to u b ≤ b = omega (arith, c b (omega arith)) in
    after_agree (ones_to u) (ones_below s at) k (after_zero b u k 0)
    (λ p h. sym (c p (omega (arith, after_zero_le u b k l')))) (after_zero_start u b k l')

-- ---- pointers

module _ (u b i : ℕ) (l : 256 * i + ones_to u b ≤ b) where
  pub pointer_is : After (ones_to u) (256 * i) (pointer b u i)
  unfolding pointer
  pointer_is = after_zero_start u b (256 * i) l

  pub pointer_le : pointer b u i ≤ b
  unfolding pointer
  pointer_le = after_zero_le u b (256 * i) l

-- ---- as bytes, four each

pub length_fours : (f : ℕ → ℕ) (i c : ℕ) → length (fours f i c) ≡ 4 * c
unfolding fours
length_fours f i zero = refl
length_fours f i (suc c) = rw (length-append, length_be 4 (f i)) (omega (arith, length_fours f (i + 1) c))

pub read_fours : (f : ℕ → ℕ) (i c : ℕ) (t : List ℕ) (j : ℕ) → j < c
    → be_at 4 (fours f i c ++ t) (4 * j) ≡ f (i + j) % 2 ^ 32
unfolding fours
read_fours f i zero t j h = absurd (omega arith)
read_fours f i (suc c) t zero h = rw (append_assoc, add-zero i) (read_be 4 (f i) (fours f (i + 1) c ++ t))
read_fours f i (suc c) t (suc j) h =
    let e : 4 * suc j ≡ 4 + 4 * j = omega arith in
    let g : i + suc j ≡ i + 1 + j = omega arith in
    rw (append_assoc, e, g)
    (be_at_past 4 4 (be 4 (f i)) (fours f (i + 1) c ++ t) (4 * j) (length_be 4 (f i))
    ∙ read_fours f (i + 1) c t j (omega arith))

pub bytes_fours : (f : ℕ → ℕ) (i c : ℕ) → Bytes (fours f i c)
unfolding fours
bytes_fours f i zero j = lit< tt
bytes_fours f i (suc c) j = bytes_cat (be 4 (f i)) (fours f (i + 1) c) (bytes_be 4 (f i))
    (λ k. bytes_fours f (i + 1) c k) j

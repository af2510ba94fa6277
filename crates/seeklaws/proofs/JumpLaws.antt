-- Laws of the places of elements in the run of a list, in either form: their order, the run's end, and that no jump
-- passes an element.
use mathlib.Core.Bool.{true}
use mathlib.Core.Path.{◌≡◌, refl, ◌∙◌}
use mathlib.Core.Logic.{inl, inr}
use mathlib.Core.List.{List, [], ◌∷◌}
use Prim.Native.Nat.{ℕ, zero, suc, ◌+◌, ◌*◌, ◌/◌, ◌^◌, ◌≤◌, ◌<◌}
use native.Mathlib.Nat.{zero-add}
use native.Mathlib.Decide.{dec_lt}
use native.Mathlib.Omega.{arith}
use lib.ListN.{length, get_or}
use lib.Pow.{shr_mono, shr_le}
use Rattle.rules.specs.List.{rising, zeros, upper, after_zero, pointer, Form, two_runs, bitmap}
use Rattle.rules.specs.Seek.{Cursor, fresh, on, spent, width_of, place_of, run_bits, bits_of, cursor_bit, jump_to, start_of}
use Rattle.rules.specs.Seek.{walk}
use Rattle.laws.proofs.BitLaws.{bit_cases}
use Rattle.listlaws.specs.Sound.{ones_to}
use Rattle.listlaws.proofs.AfterLaws.{zero_none, ones_none, ones_steps, after_le, after_zero_is}
use Rattle.listlaws.proofs.RisingLaws.{rising_length}
use Rattle.listlaws.proofs.UpperLaws.{upper_at_lem, upper_ones}
use Rattle.seeklaws.specs.Cursors.{first_at, floor, Placed, Ahead}
use Rattle.seeklaws.proofs.FirstLaws.{rising_lt, rising_below, walk_first}

-- ---- the run's end

pub bits_are : (f : Form) (U : ℕ) (xs : List ℕ) → 0 < length xs → bits_of f U xs ≡ run_bits f U (length xs)
unfolding bits_of
bits_are f U [] h = absurd (omega arith)
bits_are f U (x ∷ xs) h = refl

after_zero_le : (b u k p : ℕ) → after_zero b u k p ≤ p + b
unfolding after_zero
after_zero_le zero u k p = omega arith
after_zero_le (suc b) u zero p = omega arith
after_zero_le (suc b) u (suc k) p =
    elim (bit_cases u p) [
      | inl z ↦ rw (z, after_zero) (omega (arith, after_zero_le b u k (p + 1)))
      | inr z ↦ rw (z, after_zero) (omega (arith, after_zero_le b u (suc k) (p + 1)))
    ]

pub pointer_le : (b u i : ℕ) → pointer b u i ≤ b
unfolding pointer
pointer_le b u i = omega (arith, after_zero_le b u (256 * i) 0)

-- a walk that starts behind no element at least b ends at the first of them
pub walk_ahead : (f : Form) (U : ℕ) (xs : List ℕ) (start b : ℕ) → Ahead f U xs b start
    → walk f (width_of U xs) start b 0 xs ≡ first_at b xs
unfolding place_of
walk_ahead f U xs start b a =
    walk_first f (width_of U xs) start b 0 xs (λ j h l. rw (zero-add j) (a j h l)) ∙ zero-add (first_at b xs)

module _ (U : ℕ) (xs : List ℕ) (r : rising 0 U xs ≡ true) where
  -- ---- in two runs

  -- below an element's place are as many ones as elements before it
  place_ones : (j : ℕ) → j < length xs → ones_to (upper (width_of U xs) 0 xs) (place_of two_runs U xs j) ≡ j
  unfolding place_of
  place_ones j h = rw (zero-add j) at (upper_at_lem (width_of U xs) U 0 0 xs r j h).1

  place_is : (j : ℕ) → place_of two_runs U xs j ≡ get_or xs j 0 / 2 ^ width_of U xs + j
  unfolding place_of
  place_is j = refl

  high_le : (j : ℕ) → j < length xs → get_or xs j 0 / 2 ^ width_of U xs ≤ zeros U (width_of U xs)
  unfolding zeros
  high_le j h = shr_mono {a = get_or xs j 0} {b = U} (width_of U xs) (omega (arith, rising_below 0 U xs r j h))

  -- the place after zero number k passes no element whose high part is at least k
  after_ahead : (k j : ℕ) → j < length xs → k ≤ get_or xs j 0 / 2 ^ width_of U xs
      → after_zero (bits_of two_runs U xs) (upper (width_of U xs) 0 xs) k 0 ≤ place_of two_runs U xs j
  after_ahead zero j h l = rw zero_none (omega arith)
  after_ahead (suc k) j h l =
      let w : ℕ = width_of U xs in
      let u : ℕ = upper w 0 xs in
      let b : ℕ = bits_of two_runs U xs in
      let e = bits_are two_runs U xs (omega arith) in
      let z : 0 + b ≡ b = omega arith in
      let all : ones_to u b ≡ length xs = (upper_ones w U 0 0 xs r b (omega (arith, e))).1 in
      let below : ones_to u (place_of two_runs U xs j) ≡ j = place_ones j h in
      let a = after_zero_is u b (suc k) 0 0 (omega (arith, ones_none u)) (omega arith)
      (rw z (omega (arith, all, ones_none u, e, high_le j h))) in
      after_le (ones_to u) (ones_steps u) (0 + suc k) (after_zero b u (suc k) 0) a (place_of two_runs U xs j)
      (omega (arith, below, place_is j))

  -- no pointer that a seek for b reads passes an element at least b
  pointer_ahead : (b : ℕ)
      → Ahead two_runs U xs b (pointer (bits_of two_runs U xs) (upper (width_of U xs) 0 xs) (b / 2 ^ width_of U xs / 256))
  unfolding pointer
  pointer_ahead b j h l =
      let g = shr_mono {a = b} {b = get_or xs j 0} (width_of U xs) l in
      after_ahead (256 * (b / 2 ^ width_of U xs / 256)) j h (omega (arith, g))

-- ---- in either form

pub place_lt : (f : Form) (U : ℕ) (xs : List ℕ) → rising 0 U xs ≡ true → (j : ℕ) → j < length xs
    → place_of f U xs j < bits_of f U xs
unfolding place_of zeros
place_lt two_runs U xs r j h = omega (arith, bits_are two_runs U xs (omega arith), high_le U xs r j h)
place_lt bitmap U xs r j h = omega (arith, bits_are bitmap U xs (omega arith), rising_below 0 U xs r j h)

pub place_few : (f : Form) (U : ℕ) (xs : List ℕ) → rising 0 U xs ≡ true → (j : ℕ) → j < length xs
    → place_of f U xs j < 2 * U
unfolding place_of
place_few two_runs U xs r j h =
    omega (
      arith,
      rising_below 0 U xs r j h,
      shr_le (get_or xs j 0) (width_of U xs),
      rising_length 0 U xs r (omega arith),
    )
place_few bitmap U xs r j h = omega (arith, rising_below 0 U xs r j h)

pub place_mono : (f : Form) (U : ℕ) (xs : List ℕ) → rising 0 U xs ≡ true → (i j : ℕ) → i < j → j < length xs
    → place_of f U xs i < place_of f U xs j
unfolding place_of
place_mono two_runs U xs r i j l h =
    let g : get_or xs i 0 ≤ get_or xs j 0 = omega (arith, rising_lt 0 U xs r i j l h) in
    omega (arith, shr_mono {a = get_or xs i 0} {b = get_or xs j 0} (width_of U xs) g)
place_mono bitmap U xs r i j l h = rising_lt 0 U xs r i j l h

-- no jump of a seek for b passes an element at least b
pub jump_ahead : (f : Form) (U : ℕ) (xs : List ℕ) → rising 0 U xs ≡ true → (b : ℕ) → Ahead f U xs b (jump_to f U xs b)
unfolding place_of
jump_ahead two_runs U xs r b = pointer_ahead U xs r b
jump_ahead bitmap U xs r b = λ j h l. l

module _ (f : Form) (U : ℕ) (xs : List ℕ) (r : rising 0 U xs ≡ true) where
  -- nor does the bit of a cursor that is on an element up to b
  pub cursor_ahead : (c : Cursor) (b : ℕ) → Placed xs c → floor U xs c ≤ b → Ahead f U xs b (cursor_bit f U xs c)
  unfolding cursor_bit floor
  cursor_ahead fresh b p l j h g = omega arith
  cursor_ahead spent b p l j h g = omega arith
  cursor_ahead (on i) b p l j h g =
      elim (dec_lt i j) [
        | yes m ↦ omega (arith, place_mono f U xs r i j m h)
        | no m ↦
            elim (dec_lt j i) [
              | yes k ↦ absurd (omega (arith, rising_lt 0 U xs r j i k p))
              | no k ↦
                  let e : i ≡ j = omega arith in
                  rw e (omega arith)
            ]
      ]

  pub start_ahead : (c : Cursor) (b : ℕ) → Placed xs c → floor U xs c ≤ b → Ahead f U xs b (start_of f U xs c b)
  unfolding start_of
  start_ahead c b p l j h g = omega (arith, cursor_ahead c b p l j h g, jump_ahead f U xs r b j h g)

  pub cursor_lt : (c : Cursor) → Placed xs c → 0 < length xs → cursor_bit f U xs c < bits_of f U xs
  unfolding cursor_bit
  cursor_lt fresh p h = omega (arith, place_lt f U xs r 0 h)
  cursor_lt spent p h = omega (arith, place_lt f U xs r 0 h)
  cursor_lt (on i) p h = place_lt f U xs r i p

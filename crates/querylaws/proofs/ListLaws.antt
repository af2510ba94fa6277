-- Laws of the lists that numbers place in a card: they rise below the one bound, and their words are few.
use mathlib.Core.Bool.{true}
use mathlib.Core.Path.{◌≡◌}
use mathlib.Core.List.{List, [], ◌∷◌}
use Prim.Native.Nat.{ℕ, zero, suc, ◌+◌, ◌*◌, ◌^◌, ◌≤◌, ◌<◌}
use native.Mathlib.Nat.{div-le_self}
use native.Mathlib.Omega.{arith}
use lib.ListN.{length}
use Rattle.rules.specs.Limits.{limit}
use Rattle.rules.specs.Runs.{words_for}
use Rattle.rules.specs.List.{rising, width, zeros, Form, two_runs, bitmap}
use Rattle.rules.specs.Seek.{bits_of, upper_words}
use Rattle.rules.specs.Common.{Reader}
use Rattle.listlaws.proofs.RisingLaws.{rising_length}
use Rattle.maplaws.proofs.Theorems.{valid_rising, valid_within}
use Rattle.readlaws.proofs.FormLaws.{open_valid}
use Rattle.commonlaws.specs.Readers.{words_of}
use Rattle.querylaws.specs.Lists.{span, form_in, part_at, shape_in, pages_at, bound_in, ListAt}

module _ (s sh : List ℕ) (i : ℕ) (l : ListAt s sh i) where
  pub list_within : bound_in sh ≤ limit
  list_within = rw l.bound
      at (valid_within (form_in s sh i) (part_at s sh i) (open_valid (form_in s sh i) (part_at s sh i) (shape_in sh i) l.opened))

  pub list_rises : rising 0 (bound_in sh) (pages_at s sh i) ≡ true
  unfolding pages_at
  list_rises = rw l.bound
      at (valid_rising (form_in s sh i) (part_at s sh i) (open_valid (form_in s sh i) (part_at s sh i) (shape_in sh i) l.opened))

  pub list_length : length (pages_at s sh i) ≤ limit
  list_length = omega (arith, list_within, rising_length 0 (bound_in sh) (pages_at s sh i) list_rises (omega arith))

-- ---- words

words_few : (f : Form) (U : ℕ) (xs : List ℕ) → U ≤ limit → length xs ≤ limit → upper_words f U xs ≤ 2 ^ 20
unfolding upper_words words_for bits_of zeros
words_few f U [] u n = omega arith
words_few two_runs U (x ∷ xs) u n = omega (arith, div-le_self U (2 ^ width U (length (x ∷ xs))))
words_few bitmap U (x ∷ xs) u n = omega arith

pub span_words : (U : ℕ) (f : ℕ → Reader) → U ≤ limit → (n i : ℕ)
    → ((j : ℕ) → i ≤ j → j < i + n → length (f j).pages ≤ limit)
    → words_of U (span f i n) ≤ n * 2 ^ 20
unfolding span words_of
span_words U f u zero i h = omega arith
span_words U f u (suc n) i h = omega (
  arith,
  words_few (f i).form U (f i).pages u (h i (omega arith) (omega arith)),
  span_words U f u n (i + 1) (λ j l m. h j (omega arith) (omega arith)),
)

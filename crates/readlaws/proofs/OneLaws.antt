-- Laws of the ones of any run by their numbers: counts against places, the ones of a word, and a start in its middle.
use mathlib.Core.Path.{◌≡◌, refl, sym, ap, ◌∙◌}
use mathlib.Core.List.{List}
use Prim.Native.Nat.{ℕ, ◌+◌, ◌-◌, ◌*◌, ◌/◌, ◌%◌, ◌^◌, ◌≤◌, ◌<◌}
use native.Mathlib.Nat.{mod-eq_of_lt, mod-lt, add-zero}
use native.Mathlib.Decide.{dec_lt}
use native.Mathlib.Omega.{arith}
use lib.Count.{ones, ones_cat}
use lib.Pow.{split, pow_pos}
use lib.ListN.{length}
use Rattle.rules.specs.Runs.{bit, run_word, run_bit}
use Rattle.rules.specs.Counts.{ones_below}
use Rattle.laws.proofs.CountLaws.{word_ones, next_word}
use Rattle.laws.proofs.RunLaws.{run_bit_lem, ones_mono, ones_flat}
use Rattle.fields.specs.Words.{place_of_one, next_one}
use Rattle.fields.proofs.WordLaws.{place_bit, place_ones, place_some, place_from, next_after, next_le, next_bit}
use Rattle.fields.proofs.WordLaws.{next_zeros}
use Rattle.readlaws.specs.Open.{OneAt, OneAhead}

-- the ones of a word: those left once its low bits are 0, and those of the low bits
ones_zero : ones 0 ≡ 0
unfolding ones
ones_zero = refl

split_ones : (x d : ℕ) → ones x ≡ ones (x / 2 ^ d * 2 ^ d) + ones (x % 2 ^ d)
split_ones x d =
    let q : ℕ = x / 2 ^ d in
    let a : ones (q * 2 ^ d) ≡ ones q + ones 0 = rw add-zero at (ones_cat d q 0 (pow_pos d)) in
    let b : ones (q * 2 ^ d + x % 2 ^ d) ≡ ones q + ones (x % 2 ^ d) =
    ones_cat d q (x % 2 ^ d) (mod-lt x (pow_pos d)) in
    ap ones (sym (split x d)) ∙ omega (arith, a, b, ones_zero)

-- no one of the run where the word has none
run_zeros : (s : List ℕ) (at k from j : ℕ) → j ≤ 64 → ((q : ℕ) → from ≤ q → q < j → bit (run_word s at k) q ≡ 0)
    → (i : ℕ) → k * 64 + from ≤ i → i < k * 64 + j → run_bit s at i ≡ 0
unfolding run_bit
run_zeros s at k from j w z i l u =
    let e : i / 64 ≡ k = omega arith in
    rw e (z (i % 64) (omega arith) (omega arith))

module _ (s : List ℕ) (at : ℕ) where
  -- fewer ones lie below an earlier place alone
  pub count_lt : (a b : ℕ) → ones_below s at a < ones_below s at b → a < b
  count_lt a b h =
      elim (dec_lt a b) [
        | yes l ↦ l
        | no l ↦
            let e : b + (a - b) ≡ a = omega arith in
            absurd (omega (arith, rw e at (ones_mono s at b (a - b))))
      ]

  module _ (k x j : ℕ) (word : x ≡ run_word s at k) (fits : x < 2 ^ 64) (some : j < ones x) where
    -- the one number j of word k
    pub place_lt : place_of_one 64 x j < 64
    place_lt = place_some 64 x j (rw (mod-eq_of_lt fits) some)

    place_one : OneAt s at (ones_below s at (64 * k) + j) (64 * k + place_of_one 64 x j)
    place_one = record {
      set = run_bit_lem s at k (place_of_one 64 x j) place_lt ∙ rw (← word) (place_bit 64 x j place_lt);
      below = word_ones s at k (place_of_one 64 x j) (omega (arith, place_lt)) ∙ rw (← word, place_ones 64 x j place_lt);
    }

  -- the first one of word k at or after its bit `from`
  module _ (k x from : ℕ) (word : x ≡ run_word s at k) where
    pub next_counts : from ≤ 64 → ones_below s at (64 * k + next_one 64 x from) ≡ ones_below s at (64 * k + from)
    next_counts h =
        let n : ℕ = next_one 64 x from in
        let e : 64 * k + from + (n - from) ≡ 64 * k + n = omega (arith, next_after 64 x from) in
        rw e at (ones_flat s at (64 * k + from) (n - from) (λ i l g.
        run_zeros s at k from n (next_le 64 x from h) (λ q a b. rw (← word) (next_zeros 64 x from q a b)) i
        (omega arith) (omega (arith, next_after 64 x from))))

    pub next_set : next_one 64 x from < 64 → run_bit s at (64 * k + next_one 64 x from) ≡ 1
    next_set h = run_bit_lem s at k (next_one 64 x from) h ∙ rw (← word) (next_bit 64 x from h)

-- ---- the ones of a run from a place on

-- the ones of x are those of word k of the run from number `passed` on, up to the word's end
pub record Onward (run : List ℕ) (k x passed : ℕ) : Type 0 where
  pub inside : k < length run / 8
  pub fits : x < 2 ^ 64
  pub places : (j : ℕ) → j < ones x → OneAt run 0 (passed + j) (64 * k + place_of_one 64 x j)
  pub next : ones_below run 0 (64 * (k + 1)) ≡ passed + ones x

-- a whole word
pub onward_word : (run : List ℕ) (k x passed : ℕ) → k < length run / 8 → x ≡ run_word run 0 k → x < 2 ^ 64
    → passed ≡ ones_below run 0 (64 * k) → Onward run k x passed
onward_word run k x passed h e l p = rw p (record {
  inside = h;
  fits = l;
  places = λ j s. place_one run 0 k x j e l s;
  next = next_word run 0 k x e l;
})

module _ (run : List ℕ) (start before rank : ℕ) (a : OneAhead run start before rank) where
  -- the start's word is one of the run's
  pub start_word : start / 64 < length run / 8
  start_word = omega (arith, count_lt run 0 start (64 * (length run / 8)) (omega (arith, a.passed, a.ahead, a.some)))

  -- that word from the start on
  pub onward_start : (x y : ℕ) → x ≡ run_word run 0 (start / 64) → x < 2 ^ 64
      → y ≡ x / 2 ^ (start % 64) * 2 ^ (start % 64) → y < 2 ^ 64 → Onward run (start / 64) y before
  onward_start x y e l f m =
      let k : ℕ = start / 64 in
      let d : ℕ = start % 64 in
      let inner : ℕ = ones (x % 2 ^ d) in
      let at : 64 * k + d ≡ start = omega arith in
      let c : ones_below run 0 start ≡ ones_below run 0 (64 * k) + inner =
      rw (← e, at) at (word_ones run 0 k d (omega arith)) in
      let o : ones x ≡ ones y + inner = rw f (split_ones x d) in
      record {
        inside = start_word;
        fits = m;
        places = λ j s.
            let r : ones_below run 0 (64 * k) + (inner + j) ≡ before + j = omega (arith, c, a.passed) in
            rw (f, place_from x d j (omega arith), ← r) (place_one run 0 k x (inner + j) e l (omega (arith, o)));
        next = omega (arith, next_word run 0 k x e l, c, a.passed, o);
      }

-- the next word is one of the run's, where the one wanted is not in this
pub onward_next : (run : List ℕ) (k x passed rank : ℕ) → Onward run k x passed → passed + ones x ≤ rank
    → rank < ones_below run 0 (64 * (length run / 8)) → k + 1 < length run / 8
onward_next run k x passed rank o l some =
    omega (arith, count_lt run 0 (64 * (k + 1)) (64 * (length run / 8)) (omega (arith, o.next)))

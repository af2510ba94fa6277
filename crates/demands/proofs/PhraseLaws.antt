-- Phrases as a host writes them: their pairs, and those of which no word is dropped.
use mathlib.Core.Bool.{Bool, true, ◌&&◌}
use mathlib.Core.Path.{◌≡◌, refl, ap, ◌∙◌}
use mathlib.Core.List.{List, [], ◌∷◌}
use Prim.Native.Nat.{ℕ, zero, suc, ◌+◌, ◌*◌, ◌≤◌}
use native.Mathlib.Nat.{add-zero}
use native.Mathlib.Omega.{arith}
use borrow.Author.Tests.{eq-eqb, le-leb, lt-ltb}
use lib.ListN.{length, get_or}
use Rattle.rules.specs.Limits.{offset_limit}
use Rattle.rules.specs.List.{rising}
use Rattle.rules.specs.Term.{Word}
use Rattle.rules.specs.Table.{stepped}
use Rattle.rules.specs.Plain.{member, positions_on, phrase_of, stands, starts_among, starts, with_starts}
use Rattle.rules.specs.Questions.{numbered, by_phrase, terms_of, offsets_of, all_below, words_good, offsets_good}
use Rattle.rules.specs.Questions.{phrase_good}
use Rattle.demands.specs.Asking.{named, paired}
use Rattle.demands.specs.InRow.{stands_in_row, among_in_row, starts_in_row, pages_in_row, by_row}

-- ---- pairs

pub paired_terms : (ts ds : List ℕ) → length ds ≡ length ts → terms_of (paired ts ds) ≡ ts
unfolding paired terms_of
paired_terms [] ds e = refl
paired_terms (t ∷ ts) [] e = absurd (omega arith)
paired_terms (t ∷ ts) (d ∷ ds) e = ap (λ (l : List ℕ). t ∷ l) (paired_terms ts ds (omega arith))

pub paired_offsets : (ts ds : List ℕ) → length ds ≡ length ts → offsets_of (paired ts ds) ≡ ds
unfolding paired offsets_of
paired_offsets [] [] e = refl
paired_offsets [] (d ∷ ds) e = absurd (omega arith)
paired_offsets (t ∷ ts) [] e = absurd (omega arith)
paired_offsets (t ∷ ts) (d ∷ ds) e = ap (λ (l : List ℕ). d ∷ l) (paired_offsets ts ds (omega arith))

pub paired_length : (ts ds : List ℕ) → length ds ≡ length ts → length (paired ts ds) ≡ 2 * length ts
unfolding paired
paired_length [] ds e = refl
paired_length (t ∷ ts) [] e = absurd (omega arith)
paired_length (t ∷ ts) (d ∷ ds) e = omega (arith, paired_length ts ds (omega arith))

-- one to eight pairs may be asked, the first of offset 0 and each offset above the one before
pub may_pair : (T : ℕ) (ts ds : List ℕ) → length ds ≡ length ts → 1 ≤ length ts → length ts ≤ 8 → all_below T ts ≡ true
    → get_or ds 0 0 ≡ 0 → rising 0 (offset_limit + 1) ds ≡ true → phrase_good T (paired ts ds) ≡ true
unfolding phrase_good words_good offsets_good
may_pair T ts ds same some few below first rises =
    rw (
      paired_terms ts ds same,
      paired_offsets ts ds same,
      eq-eqb (length (paired ts ds)) (2 * length ts) (paired_length ts ds same),
      le-leb 1 (length ts) some,
      le-leb (length ts) 8 few,
      below,
      first,
      rises,
    )

pub length_named : (ts : List Word) (terms : List ℕ) → length (named ts terms) ≡ length terms
unfolding named
length_named ts [] = refl
length_named ts (t ∷ terms) = ap suc (length_named ts terms)

-- ---- no word dropped: offsets 0, 1, 2 and so on

pub length_row : (k a : ℕ) → length (stepped k a 1) ≡ k
unfolding stepped
length_row zero a = refl
length_row (suc k) a = ap suc (length_row k (a + 1))

pub first_row : (k : ℕ) → get_or (stepped k 0 1) 0 0 ≡ 0
unfolding stepped
first_row zero = refl
first_row (suc k) = refl

pub rising_row : (k a U : ℕ) → a + k ≤ U → rising a U (stepped k a 1) ≡ true
unfolding stepped rising
rising_row zero a U h = refl
rising_row (suc k) a U h =
    rw (le-leb a a (omega arith), lt-ltb a U (omega arith)) (rising_row k (a + 1) U (omega arith))

module _ (p : ℕ) where
  stands_row : (ts : List Word) (i a : ℕ) → stands (phrase_of ts (stepped (length ts) i 1)) p a
      ≡ stands_in_row ts p (a + i)
  unfolding stands phrase_of stepped stands_in_row
  stands_row [] i a = refl
  stands_row (t ∷ ts) i a =
      let e : a + (i + 1) ≡ a + i + 1 = omega arith in
      ap (λ (b : Bool). member (a + i) (positions_on p t) && b)
      (stands_row ts (i + 1) a ∙ ap (stands_in_row ts p) e)

  among_row : (ts : List Word) (qs : List ℕ) → starts_among (phrase_of ts (stepped (length ts) 0 1)) p qs
      ≡ among_in_row ts p qs
  unfolding starts_among among_in_row
  among_row ts [] = refl
  among_row ts (q ∷ qs) =
      rw (stands_row ts 0 q ∙ ap (stands_in_row ts p) (add-zero q), among_row ts qs)

  starts_row : (ts : List Word) → starts (phrase_of ts (stepped (length ts) 0 1)) p ≡ starts_in_row ts p
  unfolding starts starts_in_row phrase_of stepped
  starts_row [] = refl
  starts_row (t ∷ ts) = among_row (t ∷ ts) (positions_on p t)

pages_row : (ts : List Word) (ps : List ℕ) → with_starts (phrase_of ts (stepped (length ts) 0 1)) ps
    ≡ pages_in_row ts ps
unfolding with_starts pages_in_row
pages_row ts [] = refl
pages_row ts (p ∷ ps) = rw (starts_row p ts, pages_row ts ps)

-- they give the old answers
pub row_answer : (ts : List Word) → by_phrase (phrase_of ts (stepped (length ts) 0 1)) ≡ by_row ts
unfolding by_phrase by_row phrase_of stepped
row_answer [] = refl
row_answer (t ∷ ts) = ap numbered (pages_row (t ∷ ts) t.pages)

-- What answering by rank and by bound is, case by case, how long the answers are, and the last number of one by bound.
use mathlib.Core.Bool.{true}
use mathlib.Core.Path.{◌≡◌, refl, sym, ap, ◌∙◌}
use mathlib.Core.List.{List, [], ◌∷◌}
use Prim.Native.Nat.{ℕ, zero, suc, ◌+◌, ◌≤◌, ◌<◌}
use native.Mathlib.Nat.{add-zero}
use native.Mathlib.Decide.{dec_lt}
use native.Mathlib.Omega.{arith}
use borrow.Author.Tests.{le-leb, lt-leb, lt-ltb, le-ltb}
use lib.ListN.{length, get_or}
use Rattle.rules.specs.List.{rising}
use Rattle.rules.specs.Write.{laid}
use Rattle.rules.specs.Seek.{Found, none, page, rank_of}
use Rattle.rules.specs.Plain.{first_from, below}
use Rattle.rules.specs.Questions.{numbered, by_rank, by_bound}
use Rattle.seeklaws.proofs.FirstLaws.{first_rank}
use Rattle.demands.specs.Asking.{last_of}

-- ---- by rank

module _ (xs : List ℕ) (rank : ℕ) where
  pub rank_in : rank < length xs → by_rank xs rank ≡ 1 ∷ (get_or xs rank 0 ∷ [])
  unfolding by_rank numbered
  rank_in h = rw (lt-ltb rank (length xs) h)

  pub rank_past : length xs ≤ rank → by_rank xs rank ≡ 0 ∷ []
  unfolding by_rank numbered
  rank_past h = rw (le-ltb rank (length xs) h)

-- ---- by bound

module _ (b : ℕ) where
  first_at : (xs : List ℕ) (k i : ℕ) → i < length xs → b ≤ get_or xs i 0 → ((j : ℕ) → j < i → get_or xs j 0 < b)
      → first_from b k xs ≡ page (get_or xs i 0) (k + i)
  unfolding first_from
  first_at [] k i h l a = absurd (omega arith)
  first_at (x ∷ xs) k zero h l a =
      let e : k + 0 ≡ k = omega arith in
      rw (le-leb b x l, first_from, e)
  first_at (x ∷ xs) k (suc i) h l a =
      let e : k + suc i ≡ k + 1 + i = omega arith in
      rw (lt-leb b x (a 0 (omega arith)), first_from, e)
      (first_at xs (k + 1) i (omega arith) l (λ j m. a (suc j) (omega arith)))

  first_none : (xs : List ℕ) (k : ℕ) → ((j : ℕ) → j < length xs → get_or xs j 0 < b)
      → first_from b k xs ≡ none (k + length xs)
  unfolding first_from
  first_none [] k a = ap none (sym (add-zero k))
  first_none (x ∷ xs) k a =
      let e : k + suc (length xs) ≡ k + 1 + length xs = omega arith in
      rw (lt-leb b x (a 0 (omega arith)), first_from, e) (first_none xs (k + 1) (λ j m. a (suc j) (omega arith)))

  pub bound_at : (xs : List ℕ) (i : ℕ) → i < length xs → b ≤ get_or xs i 0 → ((j : ℕ) → j < i → get_or xs j 0 < b)
      → by_bound xs b ≡ 2 ∷ (get_or xs i 0 ∷ (i ∷ []))
  unfolding by_bound numbered
  bound_at xs i h l a =
      let e : 0 + i ≡ i = omega arith in
      rw (first_at xs 0 i h l a, by_bound, e)

  pub bound_none : (xs : List ℕ) → ((j : ℕ) → j < length xs → get_or xs j 0 < b) → by_bound xs b ≡ 1 ∷ (length xs ∷ [])
  unfolding by_bound numbered
  bound_none xs a =
      let e : 0 + length xs ≡ length xs = omega arith in
      rw (first_none xs 0 a, by_bound, e)

  -- found or not, the last number is how many lie below the bound
  pub bound_last : (U : ℕ) (xs : List ℕ) → rising 0 U xs ≡ true → (room : List ℕ)
      → last_of (laid (by_bound xs b) room) ≡ below b xs
  unfolding by_bound numbered laid rank_of
  bound_last U xs r room = go (first_from b 0 xs) refl
    where
      go : (f : Found) → first_from b 0 xs ≡ f → last_of (laid (by_bound xs b) room) ≡ below b xs
      go (none n) e = rw (e, by_bound) (sym (ap rank_of e) ∙ first_rank b 0 U xs r)
      go (page x i) e = rw (e, by_bound) (sym (ap rank_of e) ∙ first_rank b 0 U xs r)

-- ---- lengths

pub rank_length : (xs : List ℕ) (rank : ℕ) → length (by_rank xs rank) ≤ 2
rank_length xs rank = elim (dec_lt rank (length xs)) [
  | yes h ↦ rw (rank_in xs rank h) (omega arith)
  | no h ↦ rw (rank_past xs rank (omega arith)) (omega arith)
]

pub bound_length : (xs : List ℕ) (b : ℕ) → length (by_bound xs b) ≤ 3
unfolding by_bound numbered
bound_length xs b = go (first_from b 0 xs) refl
  where
    go : (f : Found) → first_from b 0 xs ≡ f → length (by_bound xs b) ≤ 3
    go (none n) e = rw (e, by_bound) (omega arith)
    go (page x i) e = rw (e, by_bound) (omega arith)

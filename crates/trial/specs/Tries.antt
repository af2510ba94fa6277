-- Where trying the words of a phrase at a start goes on, and how a page and its starts are put behind the pairs found.
--
--   pair_of p n          page p and its n starts, or nothing where n is 0
--   tried_at at next k   where counting goes on from `at` when the next of k words allows a start at `next`, and none before
--   Paired a room p n r after  the pair of p and n was put behind the pairs a, if there was room; r numbers are found
--   PairedBehind m room p n r after  so it is behind any pairs of m numbers
use Rattle.std.specs.Prelude.{cond, not, ◌≡◌, List, [], ◌∷◌, ◌++◌, ℕ, ◌+◌, ◌<◌, eqb, ltb, length}
use Rattle.rules.specs.Write.{laid}
use Rattle.trial.specs.declared.Trial.{Trial}

unfoldable pub pair_of : ℕ → ℕ → List ℕ
pair_of p n = cond (ltb 0 n) (p ∷ (n ∷ [])) []

unfoldable pub tried_at : Trial → ℕ → ℕ → Trial
tried_at at next k =
    cond (not (eqb next at.start))
    (record { turned = at.turned; start = next; standing = 0; count = at.count })
    (cond (ltb (at.standing + 1) k)
    (record { turned = at.turned; start = at.start; standing = at.standing + 1; count = at.count })
    (record { turned = at.turned; start = at.start + 1; standing = 0; count = at.count + 1 }))

pub record Paired (a room : List ℕ) (p n r : ℕ) (after : List ℕ) : Type 0 where
  pub found : r ≡ length (a ++ pair_of p n)
  pub same : length after ≡ length room
  pub laid : (first : List ℕ) → room ≡ laid (0 ∷ a) first → length (a ++ pair_of p n) < length first → after
      ≡ laid (0 ∷ (a ++ pair_of p n)) first

abbrev pub PairedBehind : ℕ → List ℕ → ℕ → ℕ → ℕ → List ℕ → Type 0
PairedBehind found room p n r after = (a : List ℕ) → length a ≡ found → Paired a room p n r after

-- What request f speaks of beside the definitions: answers with their looks left out, and blocks as they were [02 f].
--
--   aside q a        the answer a to the question q, with 0 for the looks of kind 3
--   asides qs xs     so for each of the questions and answers
--   Stored v N n s   the forms of the three lists of the term's bytes s, of n pages below N, in an index of version v
--   old_term N t      a word's block as it was before there were bitmaps
--   old_terms N ts    such blocks, one after the other
--   old_card N ts     an index as it was
use Rattle.std.specs.Prelude.{cond, ◌↔◌, ◌⊎◌, ◌≡◌, List, [], ◌∷◌, ◌++◌, ℕ, ◌+◌, ◌≤◌, ◌<◌, eqb, length, get_or, set}
use Rattle.rules.specs.Limits.{version, map_version, map_edition}
use Rattle.rules.specs.Bytes.{be, sized}
use Rattle.rules.specs.List.{block}
use Rattle.rules.specs.Term.{Word, total, sums, next, places}
use Rattle.rules.specs.ReadTerm.{pages_of, counts_of, positions_of}
use Rattle.demands.specs.Asking.{Query}
use Rattle.demands.specs.Faults.{Dense}

unfoldable pub aside : Query → List ℕ → List ℕ
aside q a = cond (eqb q.kind 3) (set a 2 0) a

unfoldable pub asides : List Query → List (List ℕ) → List (List ℕ)
asides [] xs = []
asides (q ∷ qs) [] = []
asides (q ∷ qs) (x ∷ xs) = aside q x ∷ asides qs xs

pub record Stored (v N n : ℕ) (s : List ℕ) : Type 0 where
  pub as_map : (get_or (pages_of s) 4 0 ≡ map_version) ↔ ((map_edition ≤ v) × Dense N n)
  pub as_runs : (get_or (pages_of s) 4 0 ≡ version) ↔ ((v < map_edition) ⊎ (Dense N n → ⊥))
  pub counts_runs : get_or (counts_of s) 4 0 ≡ version
  pub positions_runs : get_or (positions_of s) 4 0 ≡ version

unfoldable pub old_term : ℕ → Word → List ℕ
old_term N t =
    sized (1 ∷
    (block N t.pages
    ++ (block (total t.counts) (sums 0 t.counts)
    ++ block (next 0 (places t)) (places t))))

unfoldable pub old_terms : ℕ → List Word → List ℕ
old_terms N [] = []
old_terms N (t ∷ ts) = old_term N t ++ old_terms N ts

unfoldable pub old_card : ℕ → List Word → List ℕ
old_card N ts = be 4 (11 + length (old_terms N ts)) ++ (1 ∷ (be 4 N ++ be 2 (length ts))) ++ old_terms N ts

-- The three lists of a term as they are checked.
--
--   list_version v k   the version of the index that list number k of a term is told: that of pages alone may be above 1
--   lists_refusal v k s  the refusal of the k list blocks at the front of s, the first one found; v is told to the first
--   rest_refusal s     the refusal of a term s whose lists are accepted
--   ListIn v k s      list number k of the term s is accepted, and where it lies
--   ListsIn v s       so are all three
use Rattle.std.specs.Prelude.{cond, ◌≡◌, List, ℕ, zero, suc, ◌<◌, ltb, length, drop}
use Rattle.rules.specs.Verdict.{Verdict}
use Rattle.rules.specs.Verdict.{Accepted, Layout, Parts}
use Rattle.rules.specs.Refusal.{and_then}
use Rattle.rules.specs.Limits.{version, list_header}
use Rattle.rules.specs.ReadList.{stated, part_refusal}
use Rattle.rules.specs.Parts.{after, part, inside}
use Rattle.rules.specs.ReadTerm.{lists_of, disagree}
use Rattle.laws.specs.Blocks.{block_at, Lies}

abbrev pub list_version : ℕ → ℕ → ℕ
list_version v zero = v
list_version v (suc k) = version

unfoldable pub lists_refusal : ℕ → ℕ → List ℕ → Verdict
lists_refusal v zero s = Accepted
lists_refusal v (suc k) s = and_then (inside list_header (part_refusal v) s) (lists_refusal version k (drop (stated s) s))

abbrev pub rest_refusal : List ℕ → Verdict
rest_refusal s = cond (ltb 0 (length (after 3 (lists_of s)))) Layout (cond (disagree s) Parts Accepted)

pub record ListIn (v k : ℕ) (s : List ℕ) : Type 0 where
  pub accepts : part_refusal (list_version v k) (part k (lists_of s)) ≡ Accepted
  pub lies : Lies list_header (block_at 5 k s) s (part k (lists_of s))

abbrev pub ListsIn : ℕ → List ℕ → Type 0
ListsIn v s = (k : ℕ) → k < 3 → ListIn v k s

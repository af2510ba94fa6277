-- A screen: the first pages from a bound on that all words hold, and the step rule's counts for them [02 e].
--
--   screen_good T r ts    whether a screen of r pages of the words ts may be asked of T words
--   screen_pages b r ls   the first r pages at or above b that all the lists hold, by plain reading
--   screen_counts v N b r ls  the seeks and the looks of the step rule from b on, stopped once r pages are listed
--   is_full r ps          whether a screen of r pages that shows the pages ps is full
--   Screening            the result: refusal, pages found, 1 where the screen is full, the bound of the next one, and
--                        both rooms after it
--   screening r pages counts  the same, of what the function answers and the rooms after it
--   unshown r pages counts    a refusal: nothing found, nothing written
--   filled r ps cs pages counts   a screen of r pages that shows the pages ps with the counts cs
--   showing r ps cs pages counts  that, or refused as 9 where pages or counts do not fit
--   screen s b r ts pages counts  the call
use Rattle.std.specs.Prelude.{Bool, cond, not, ◌&&◌, ◌||◌, List, [], ◌∷◌, ℕ, ◌+◌, ◌-◌, ltb, leb, eqb, length, get_or, take}
use Rattle.std.specs.Prelude.{Result, Ok, Err, is_some}
use Rattle.std.specs.Option.{unwrap_or}
use Rattle.rules.specs.declared.Refusal.{Refusal}
use Rattle.rules.specs.Verdict.{Verdict}
use Rattle.rules.specs.Verdict.{Accepted, Question, Room}
use Rattle.rules.specs.declared.Screened.{Screened}
use Rattle.rules.specs.Refusal.{accepted}
use Rattle.rules.specs.Limits.{screen_limit}
use Rattle.rules.specs.Write.{laid}
use Rattle.rules.specs.Index.{index_v, index_n, index_t, index_refusal}
use Rattle.rules.specs.Common.{common_from}
use Rattle.rules.specs.Plain.{at_least, common_pages}
use Rattle.rules.specs.Questions.{lists_in, words_good}

unfoldable pub screen_good : ℕ → ℕ → List ℕ → Bool
screen_good T r ts = leb 1 r && (leb r screen_limit && words_good T ts)

unfoldable pub screen_pages : ℕ → ℕ → List (List ℕ) → List ℕ
screen_pages b r ls = take r (at_least b (common_pages ls))

unfoldable pub screen_counts : ℕ → ℕ → ℕ → ℕ → List (List ℕ) → List ℕ
screen_counts v N b r ls = (common_from v N ls b r).seeks ∷ ((common_from v N ls b r).looks ∷ [])

unfoldable pub is_full : ℕ → List ℕ → Bool
is_full r ps = eqb (length ps) r

pub record Screening : Type 0 where
  pub refusal : Verdict
  pub found : ℕ
  pub full : ℕ
  pub next : ℕ
  pub pages : List ℕ
  pub counts : List ℕ

abbrev pub screening : Result Screened Refusal → List ℕ → List ℕ → Screening
screening (Ok x) pages counts = record {
  refusal = Accepted;
  found = x.found;
  full = cond (is_some x.next) 1 0;
  next = unwrap_or x.next 0;
  pages = pages;
  counts = counts;
}
screening (Err r) pages counts = record {
  refusal = Err r;
  found = 0;
  full = 0;
  next = 0;
  pages = pages;
  counts = counts;
}

unfoldable pub unshown : Verdict → List ℕ → List ℕ → Screening
unshown r pages counts = record { refusal = r; found = 0; full = 0; next = 0; pages = pages; counts = counts }

-- the next screen starts behind the last page
abbrev pub filled : ℕ → List ℕ → List ℕ → List ℕ → List ℕ → Screening
filled r ps cs pages counts = record {
  refusal = Accepted;
  found = length ps;
  full = cond (is_full r ps) 1 0;
  next = cond (is_full r ps) (get_or ps (r - 1) 0 + 1) 0;
  pages = laid ps pages;
  counts = laid cs counts;
}

unfoldable pub showing : ℕ → List ℕ → List ℕ → List ℕ → List ℕ → Screening
showing r ps cs pages counts =
    cond (ltb (length pages) (length ps) || ltb (length counts) (length cs)) (unshown Room pages counts)
    (filled r ps cs pages counts)

unfoldable pub screen : List ℕ → ℕ → ℕ → List ℕ → List ℕ → List ℕ → Screening
screen s b r ts pages counts =
    cond (not (accepted (index_refusal s))) (unshown (index_refusal s) pages counts)
    (cond (not (screen_good (index_t s) r ts)) (unshown Question pages counts)
    (showing r (screen_pages b r (lists_in s ts)) (screen_counts (index_v s) (index_n s) b r (lists_in s ts)) pages counts))

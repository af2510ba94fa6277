-- The lists of a question's words, opened.
--
--   OpenedPages s ts r   the 64 numbers r place the pages of the words ts, the shortest list
--                        first and the others in their order, so that they are gone through as the step rule has it
use Rattle.std.specs.Prelude.{◌≡◌, List, ◌∷◌, ℕ, length}
use Rattle.rules.specs.Index.{index_v, index_n}
use Rattle.rules.specs.Common.{lead_pages, other_pages, common_from}
use Rattle.rules.specs.Questions.{lists_in}
use Rattle.commonlaws.specs.Readers.{Rise}
use Rattle.querylaws.specs.Lists.{pages_in, bound_in, Lists}
use Rattle.querylaws.specs.Listings.{rule_in}

pub record OpenedPages (s ts r : List ℕ) : Type 0 where
  pub room : length r ≡ 64
  pub lists : Lists s r (length ts)
  pub pages : pages_in s r (length ts) ≡ lead_pages (lists_in s ts) ∷ other_pages (lists_in s ts)
  pub bound : bound_in r ≡ index_n s
  pub rise : Rise (index_n s) (lists_in s ts)
  pub rule : (b n : ℕ) → rule_in s r (length ts) b n ≡ common_from (index_v s) (index_n s) (lists_in s ts) b n

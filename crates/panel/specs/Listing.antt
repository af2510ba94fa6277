-- A screen before it is handed over, and what is said of it.
--
--   Lists s b n ts list found seeks looks  the list begins with so many pages, those of a screen of n pages of the
--                 words ts from b on of the card s, and these are its counts
--   Shows n ps x  x says how many the pages ps are, and where they fill a screen of n what bound the next one has
use Rattle.std.specs.Prelude.{cond, ◌≡◌, List, [], ◌∷◌, ℕ, ◌+◌, ◌-◌, ◌≤◌, length, get_or, take, Some, None}
use Rattle.rules.specs.declared.Screened.{Screened}
use Rattle.rules.specs.Limits.{limit}
use Rattle.rules.specs.Index.{index_v, index_n}
use Rattle.rules.specs.Questions.{lists_in}
use Rattle.rules.specs.Screen.{screen_pages, screen_counts, is_full}

pub record Lists (s : List ℕ) (b n : ℕ) (ts list : List ℕ) (found seeks looks : ℕ) : Type 0 where
  pub pages : take found list ≡ screen_pages b n (lists_in s ts)
  pub counts : seeks ∷ looks ∷ [] ≡ screen_counts (index_v s) (index_n s) b n (lists_in s ts)
  pub few : found ≤ n
  pub low : found ≡ n → get_or list (n - 1) 0 ≤ limit

pub record Shows (n : ℕ) (ps : List ℕ) (x : Screened) : Type 0 where
  pub found : x.found ≡ length ps
  pub next : x.next ≡ cond (is_full n ps) (Some (get_or ps (n - 1) 0 + 1)) None

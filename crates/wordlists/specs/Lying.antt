-- Where the lists of words lie in a card.
--
--   list_of s t k        the block of list number k of word t of the card s: pages, counts, positions
--   Lying s b from to   the bytes b are those of s from byte `from` up to byte `to`
--   ListLying s at k from to  so is the block of list number k of the word whose term starts at byte `at`
--   AllLying s ts k n ps  so are the lists number k of the first n of the words ts, each by its two numbers of ps
use Rattle.std.specs.Prelude.{◌≡◌, List, ℕ, ◌+◌, ◌-◌, ◌*◌, ◌≤◌, ◌<◌, length, get_or, take, drop}
use Rattle.rules.specs.Parts.{part}
use Rattle.rules.specs.ReadTerm.{lists_of}
use Rattle.rules.specs.Index.{term_part}
use Rattle.findlaws.specs.Starts.{Starts}

unfoldable pub list_of : List ℕ → ℕ → ℕ → List ℕ
list_of s t k = part k (lists_of (term_part t s))

pub record Lying (s b : List ℕ) (from to : ℕ) : Type 0 where
  pub starts : from ≤ to
  pub ends : to ≤ length s
  pub bytes : take (to - from) (drop from s) ≡ b

abbrev pub ListLying : List ℕ → ℕ → ℕ → ℕ → ℕ → Type 0
ListLying s at k from to = (t : ℕ) → Starts s t at → Lying s (list_of s t k) from to

abbrev pub AllLying : List ℕ → List ℕ → ℕ → ℕ → List ℕ → Type 0
AllLying s ts k n ps = (i : ℕ) → i < n → Lying s (list_of s (get_or ts i 0) k) (get_or ps (2 * i) 0) (get_or ps (2 * i + 1) 0)

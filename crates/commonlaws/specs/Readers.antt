-- Readers and lists of them, and what is shared by lists from a bound on.
--
--   pages_of rs        the lists that the readers rs read
--   Rise U ls         every list rises below U
--   Ready U b r       the reader's list rises below U, and its cursor may be sought for b:
--                     all that it passed is below b
--   AllReady U b rs   each of them is
--   moved U b r       the reader after a seek for b
--   OnPage c r        the reader's cursor is on the element c
--   AllOnPage c rs    each of them is
--   reached_by U rs    the words that the readers' cursors have reached, in all
--   words_of U rs      the words of the readers' runs, upper runs or bitmaps, in all
--   words_in v U ls    those of the lists in an index of version v, a list counted as often as it is named
--   shared_from b lead others  the pages at least b that the lead shares with all others
--   left_in b r        how many pages at least b the reader's list has
--   Leads ls l        list number l is the shortest, and the first of equals
use Rattle.std.specs.Prelude.{true, ◌≡◌, List, [], ◌∷◌, ℕ, ◌+◌, ◌≤◌, ◌<◌, length, get_or}
use Rattle.rules.specs.List.{rising, form_of}
use Rattle.rules.specs.Seek.{on, upper_words}
use Rattle.rules.specs.Common.{Reader, seek_by, moved_by}
use Rattle.rules.specs.Plain.{at_least, shared_by}
use Rattle.seeklaws.specs.Cursors.{Placed, Behind, reached}

unfoldable pub pages_of : List Reader → List (List ℕ)
pages_of [] = []
pages_of (r ∷ rs) = r.pages ∷ pages_of rs

abbrev pub Rise : ℕ → List (List ℕ) → Type 0
Rise U [] = Unit {0}
Rise U (l ∷ ls) = (rising 0 U l ≡ true) × Rise U ls

pub record Ready (U b : ℕ) (r : Reader) : Type 0 where
  pub rises : rising 0 U r.pages ≡ true
  pub placed : Placed r.pages r.cursor
  pub behind : Behind U r.pages r.cursor b

abbrev pub AllReady : ℕ → ℕ → List Reader → Type 0
AllReady U b [] = Unit {0}
AllReady U b (r ∷ rs) = Ready U b r × AllReady U b rs

unfoldable pub moved : ℕ → ℕ → Reader → Reader
moved U b r = moved_by r (seek_by U r b)

pub record OnPage (c : ℕ) (r : Reader) : Type 0 where
  pub rank : ℕ
  pub stands : r.cursor ≡ on rank
  pub within : rank < length r.pages
  pub there : get_or r.pages rank 0 ≡ c

abbrev pub AllOnPage : ℕ → List Reader → Type 0
AllOnPage c [] = Unit {0}
AllOnPage c (r ∷ rs) = OnPage c r × AllOnPage c rs

unfoldable pub reached_by : ℕ → List Reader → ℕ
reached_by U [] = 0
reached_by U (r ∷ rs) = reached r.form U r.pages r.cursor + reached_by U rs

unfoldable pub words_of : ℕ → List Reader → ℕ
words_of U [] = 0
words_of U (r ∷ rs) = upper_words r.form U r.pages + words_of U rs

unfoldable pub words_in : ℕ → ℕ → List (List ℕ) → ℕ
words_in v U [] = 0
words_in v U (l ∷ ls) = upper_words (form_of v U (length l)) U l + words_in v U ls

abbrev pub shared_from : ℕ → Reader → List Reader → List ℕ
shared_from b lead others = shared_by (pages_of others) (at_least b lead.pages)

abbrev pub left_in : ℕ → Reader → ℕ
left_in b r = length (at_least b r.pages)

pub record Leads (ls : List (List ℕ)) (l : ℕ) : Type 0 where
  pub within : l < length ls
  pub least : (j : ℕ) → j < length ls → length (get_or ls l []) ≤ length (get_or ls j [])
  pub first : (j : ℕ) → j < l → length (get_or ls l []) < length (get_or ls j [])

-- Screens as a host takes them, and the sentences of their refusals [02 e].
--
--   screening s b r ts pages counts  "The card is checked first; r not 1 to 64, no words, more than 8, or a word not
--                        below T are 8; pages below the pages found, or counts below its numbers, is 9"
--   Unwritten x pages counts pages' counts'  "both rooms are unchanged and all other numbers are 0"
--   Fills r ps x         the pages ps are as many as the screen has: x says so, and that the next starts behind them
--   Falls r ps x         they are fewer: x says so, and no bound
--   Shot                 a screen that was taken: the rooms, what the call answered, and the rooms after it
--   Took s ts r b x      x was taken of r pages of the words ts from b on of the card s, and not refused
--   shows x              the pages that it shows
--   Full s ts r b xs c   the screens xs were taken one after the other, the first from b on, each from the bound that
--                        the one before it gave, and each is full; the last gave the bound c
--   shown xs             their pages, one after the other
use Rattle.std.specs.Prelude.{◌≡◌, List, [], ◌∷◌, ◌++◌, ℕ, ◌+◌, ◌-◌, ◌<◌, length, get_or, take}
use Rattle.rules.specs.Verdict.{Question, Room}
use Rattle.rules.specs.Limits.{phrase_limit, screen_limit}
use Rattle.rules.specs.Index.{index_t}
use Rattle.rules.specs.Questions.{lists_in}
use Rattle.rules.specs.Screen.{screen_pages}
use Rattle.telling.specs.declared.HostScreened.{HostScreened}
use Rattle.hostlaws.specs.Host.{HostScreenShown}
use Rattle.demands.specs.Faults.{NotBelow}
use Rattle.demands.specs.Sentences.{Sentence, ◌when◌, index_sentences}

abbrev pub screening : List ℕ → ℕ → ℕ → List ℕ → List ℕ → List ℕ → List Sentence
screening s b r ts pages counts =
    index_sentences s
    ++ Question when (r < 1)
    ∷ Question when (screen_limit < r)
    ∷ Question when (length ts < 1)
    ∷ Question when (phrase_limit < length ts)
    ∷ Question when NotBelow (index_t s) ts
    ∷ Room when (length pages < length (screen_pages b r (lists_in s ts)))
    ∷ Room when (length counts < 2)
    ∷ []

pub record Unwritten (x : HostScreened) (pages counts pages' counts' : List ℕ) : Type 0 where
  pub pages_kept : pages' ≡ pages
  pub counts_kept : counts' ≡ counts
  pub found : x.found ≡ 0
  pub full : x.full ≡ 0
  pub next : x.next ≡ 0

abbrev pub Fills : ℕ → List ℕ → HostScreened → Type 0
Fills r ps x = (length ps ≡ r) × (x.full ≡ 1) × (x.next ≡ get_or ps (r - 1) 0 + 1)

abbrev pub Falls : ℕ → List ℕ → HostScreened → Type 0
Falls r ps x = (length ps < r) × (x.full ≡ 0) × (x.next ≡ 0)

pub record Shot : Type 0 where
  pub pages : List ℕ
  pub counts : List ℕ
  pub answer : HostScreened
  pub pages_after : List ℕ
  pub counts_after : List ℕ

abbrev pub Took : List ℕ → List ℕ → ℕ → ℕ → Shot → Type 0
Took s ts r b x =
    HostScreenShown s b r ts x.pages x.counts x.answer x.pages_after x.counts_after
    × (x.answer.refusal ≡ 0)

abbrev pub shows : Shot → List ℕ
shows x = take x.answer.found x.pages_after

abbrev pub Full : List ℕ → List ℕ → ℕ → ℕ → List Shot → ℕ → Type 0
Full s ts r b [] c = c ≡ b
Full s ts r b (x ∷ xs) c = Took s ts r b x × (x.answer.full ≡ 1) × Full s ts r x.answer.next xs c

unfoldable pub shown : List Shot → List ℕ
shown [] = []
shown (x ∷ xs) = shows x ++ shown xs

-- A phrase asked of a card: its words' lists opened, and what its pages are.
--
--   phrase_at s ts ds    the words ts of the card s as a phrase, with their offsets ds
--   found_in s ts ds     the pairs of pages and starts of that phrase
--   found_by s ts ls     so they are with the offsets of the row ls
--   new_words            reading of eight words of which no element is passed
--   pages_in ls, counts_in ls, positions_in ls  the numbers of the lists of pages, of counts and of positions in the row ls
--   lead_in ls           the number of the word whose pages lead, behind them
--   offsets_in ls        the offsets of the words, at the row's end
--   Asked s ts lead pg ct ps  the lists of the words ts: the pages with those of word number lead first, counts and positions
--                       each in its word's slot
--   AskedIn s ts ls     so it is by the row ls of their numbers, and the first word has offset 0
--   PhraseOpened s args k ts ls  the first k numbers of ts are the terms of the pairs args, and by the row ls their
--                       lists are opened, with their offsets
--   OnAll s ts pg q p   the cursor of each list of pages is on page p
--   AheadOf s ts ct ps ws b i  of word i's counts and positions nothing of a page from b on is passed; reading stands where
--                       ws says
--   Ahead s ts ct ps ws b  so it is of all words
--   Turnable s ts ls t ws  the phrase is asked, its cursors are on the page of the turn t, and that page is ahead
--   CountedOn s ts ls p r ws  r starts are on page p, and the pages behind it are ahead
--   positions_here s ts p i  the positions of word i on page p
--   TurnedTo s ts ct ps p b ws i  word i is turned to page p, ws has its span there, and reading stands ready for a
--                       position at b or behind it
--   Trying s ts ds lead ct ps p at ws  counting the starts on page p stands at `at`: the words of the first slots are
--                       turned to the page and the others have it ahead, some stand, and the starts before are counted
--   TryingIn s ts ls p at ws  so it is by the row ls
use Rattle.std.specs.Prelude.{true, ◌≡◌, List, ℕ, ◌+◌, ◌-◌, ◌^◌, ◌≤◌, ◌<◌, length, get_or, take, drop, replicate}
use Rattle.rules.specs.Verdict.{Accepted}
use Rattle.rules.specs.Limits.{limit}
use Rattle.rules.specs.ReadList.{decode}
use Rattle.rules.specs.ReadTerm.{pages_of, read_word, term_refusal}
use Rattle.rules.specs.Index.{index_v, term_part}
use Rattle.rules.specs.Common.{lead_of}
use Rattle.rules.specs.Plain.{member, positions_on, InPhrase, phrase_of, starts, with_starts, common_pages}
use Rattle.rules.specs.Questions.{lists_in, words_in, terms_of, offsets_of}
use Rattle.commonlaws.specs.Readers.{OnPage}
use Rattle.querylaws.specs.declared.Query.{Query}
use Rattle.querylaws.specs.declared.Turn.{Turn}
use Rattle.querylaws.specs.Lists.{part_at, form_in, shape_in, pages_at, bound_in}
use Rattle.querylaws.specs.Queries.{cursor_in, reader_at}
use Rattle.walklaws.specs.Cursors.{Held}
use Rattle.span.specs.Walks.{WalkOn, PassedTo}
use Rattle.turning.specs.Words.{count_walk, position_walk, base_in}
use Rattle.phrase.specs.Pages.{Ready}
use Rattle.openlists.specs.Places.{slot_of}
use Rattle.wordlists.specs.Opened.{OpenedPages}
use Rattle.openwords.specs.Slots.{Filled}
use Rattle.trial.specs.declared.Trial.{Trial}
use Rattle.triallaws.specs.Spans.{positions_before, TermAt}
use Rattle.triallaws.specs.Starts.{starts_below}

abbrev pub phrase_at : List ℕ → List ℕ → List ℕ → List InPhrase
phrase_at s ts ds = phrase_of (words_in s ts) ds

unfoldable pub found_in : List ℕ → List ℕ → List ℕ → List ℕ
found_in s ts ds = with_starts (phrase_at s ts ds) (common_pages (lists_in s ts))

abbrev pub term_at : List ℕ → List ℕ → ℕ → List ℕ
term_at s ts i = term_part (get_or ts i 0) s

abbrev pub new_words : List ℕ
new_words = replicate 64 0

abbrev pub pages_in : List ℕ → List ℕ
pages_in ls = take 64 ls

abbrev pub counts_in : List ℕ → List ℕ
counts_in ls = take 64 (drop 64 ls)

abbrev pub positions_in : List ℕ → List ℕ
positions_in ls = take 64 (drop 128 ls)

abbrev pub lead_in : List ℕ → ℕ
lead_in ls = get_or ls 192 0

abbrev pub offsets_in : List ℕ → List ℕ
offsets_in ls = drop 193 ls

abbrev pub found_by : List ℕ → List ℕ → List ℕ → List ℕ
found_by s ts ls = found_in s ts (offsets_in ls)

pub record Asked (s ts : List ℕ) (lead : ℕ) (pg ct ps : List ℕ) : Type 0 where
  pub accepts : (i : ℕ) → i < length ts → term_refusal (index_v s) (term_at s ts i) ≡ Accepted
  pub leads : lead ≡ lead_of (lists_in s ts)
  pub pages : OpenedPages s ts pg
  pub counts : Filled s ts 1 (length ts) ct
  pub positions : Filled s ts 2 (length ts) ps

pub record AskedIn (s ts ls : List ℕ) : Type 0 where
  pub row : length ls ≡ 201
  pub asked : Asked s ts (lead_in ls) (pages_in ls) (counts_in ls) (positions_in ls)
  pub first : get_or (offsets_in ls) 0 0 ≡ 0

pub record PhraseOpened (s args : List ℕ) (k : ℕ) (ts ls : List ℕ) : Type 0 where
  pub eight : length ts ≡ 8
  pub many : k ≡ length (terms_of args)
  pub few : k ≤ 8
  pub terms : take k ts ≡ terms_of args
  pub offsets : take k (offsets_in ls) ≡ offsets_of args
  pub asked : AskedIn s (take k ts) ls

pub record OnAll (s ts pg : List ℕ) (q : Query) (p : ℕ) : Type 0 where
  pub eight : length q.cursors ≡ 8
  pub held : (i : ℕ) → i < length ts → Held (form_in s pg i) (bound_in pg) (pages_at s pg i) (cursor_in q i)
  pub on_page_lem : (i : ℕ) → i < length ts → OnPage p (reader_at s pg q i)

pub record AheadOf (s ts ct ps ws : List ℕ) (b i : ℕ) : Type 0 where
  pub counted : WalkOn (part_at s ct i) (shape_in ct i) (count_walk ws i)
  pub walked : WalkOn (part_at s ps i) (shape_in ps i) (position_walk ws i)
  pub ahead : (r : ℕ) → r < length (decode (pages_of (term_at s ts i))) → b ≤ get_or (decode (pages_of (term_at s ts i))) r 0
      → ((count_walk ws i).next ≤ r) × ((position_walk ws i).next ≤ positions_before (term_at s ts i) r)

pub record Ahead (s ts ct ps ws : List ℕ) (b : ℕ) : Type 0 where
  pub room : length ws ≡ 64
  pub each : (i : ℕ) → i < length ts → AheadOf s ts ct ps ws b i

abbrev pub Turnable : List ℕ → List ℕ → List ℕ → Turn → List ℕ → Type 0
Turnable s ts ls t ws =
    AskedIn s ts ls × OnAll s ts (pages_in ls) t.q (t.mark - 1)
    × Ahead s ts (counts_in ls) (positions_in ls) ws (t.mark - 1)

abbrev pub CountedOn : List ℕ → List ℕ → List ℕ → ℕ → ℕ → List ℕ → Type 0
CountedOn s ts ls p r ws =
    (r ≡ starts (phrase_at s ts (offsets_in ls)) p) × (r < 2 ^ 32) × Ahead s ts (counts_in ls) (positions_in ls) ws (p + 1)

abbrev pub positions_here : List ℕ → List ℕ → ℕ → ℕ → List ℕ
positions_here s ts p i = positions_on p (read_word (term_at s ts i))

pub record TurnedTo (s ts ct ps : List ℕ) (p b : ℕ) (ws : List ℕ) (i : ℕ) : Type 0 where
  pub term : TermAt s ps ws p i (term_at s ts i)
  pub counted : PassedTo (part_at s ct i) (shape_in ct i) (term.rank + 1) (count_walk ws i)
  pub ready : Ready s ps ws i (base_in ws i + b)

pub record Trying (s ts ds : List ℕ) (lead : ℕ) (ct ps : List ℕ) (p : ℕ) (at : Trial) (ws : List ℕ) : Type 0 where
  pub room : length ws ≡ 64
  pub enough : length ts ≤ length ds
  pub some : at.standing < length ts
  pub order : at.standing ≤ at.turned
  pub within : at.turned ≤ length ts
  pub small : at.start ≤ limit
  pub words : (i : ℕ) → i < length ts → slot_of lead i < at.turned
      → TurnedTo s ts ct ps p (at.start + get_or ds i 0) ws i
  pub others : (i : ℕ) → i < length ts → at.turned ≤ slot_of lead i → AheadOf s ts ct ps ws p i
  pub stand : (i : ℕ) → i < length ts → slot_of lead i < at.standing
      → member (at.start + get_or ds i 0) (positions_here s ts p i) ≡ true
  pub counted : at.count ≡ starts_below (phrase_at s ts ds) p at.start

abbrev pub TryingIn : List ℕ → List ℕ → List ℕ → ℕ → Trial → List ℕ → Type 0
TryingIn s ts ls p at ws = Trying s ts (offsets_in ls) (lead_in ls) (counts_in ls) (positions_in ls) p at ws

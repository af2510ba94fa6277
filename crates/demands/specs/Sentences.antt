-- Document 01's sentences of refusal and request f's, call by call in their order, and which of them answers
-- [01 Numbers of refusal; 02 f].
--
--   r when P          a sentence: the refusal r is given where P holds
--   First k ps        k is the number of the first sentence of ps that holds, 0 where none does:
--                     "The first one found is the answer."
--   alone h own s     bytes given by themselves: 1 and 2, and their own further sentences
--   inside h own s    the block at the front of what remains of a container: 1 and 2 as inside one, and its own
--   list_own s         a list alone behind its 1 and 2, and list_sentences s its check: "Order: 1, 2, 3, 4, 5, 6 in a
--                     list."
--   part_own v s       a list in a term behind its 1 and 2, of pages in an index of version v, or of counts or
--                     positions, where v is 1: a form in the wrong place "is 3, given after 4 and after n above U but
--                     before the length is compared" [02 f]
--   disagreements s   "parts disagree": those that a term tells by itself
--   term_own v s       a term of an index of version v behind its 1 and 2, and term_sentences v s its check: "its own 1
--                     to 4, then each part in order with all its checks, then bytes left over (5). A term's own 7
--                     comes after its 5"; an unknown version that is told is 3 too
--   terms_of v T N s   T terms and what is left behind them: "pages U against N is tested when that term has passed"
--   index_own s        an index behind its 1 and 2, and index_sentences s its check: its own 3 and 4, then its terms
--   list_writing U xs room  "Writer of a list": 4, 10, 9
--   term_writing v N t room  "Writer of a term": 3 [02 f], 4, 10, 4, 9
--   closing buffer used v N T  "Closing an index": 9, 1, 3 [02 f], 4, "then the terms as in reading"
--   asking s qs room  "The card is checked first, then all questions", then the answers' room
use Rattle.std.specs.Prelude.{◌⊎◌, ◌≡◌, List, [], ◌∷◌, ◌++◌, ℕ, zero, suc, ◌≤◌, ◌<◌, length, get_or, take, drop}
use Rattle.rules.specs.Verdict.{Verdict}
use Rattle.rules.specs.Verdict.{Short, Length, Version, Limit, Layout, Runs, Parts}
use Rattle.rules.specs.Verdict.{Question, Room, Lists}
use Rattle.rules.specs.Refusal.{number}
use Rattle.rules.specs.Limits.{limit, term_limit, version, map_version, last_edition, list_header, term_header}
use Rattle.rules.specs.Limits.{index_header, four_bytes}
use Rattle.rules.specs.List.{block}
use Rattle.rules.specs.ReadList.{stated, list_u}
use Rattle.rules.specs.Term.{Word, next, places, term_block}
use Rattle.rules.specs.Parts.{after}
use Rattle.rules.specs.ReadTerm.{lists_of}
use Rattle.rules.specs.Index.{index_v, index_n, index_t}
use Rattle.rules.specs.Questions.{replies}
use Rattle.rules.specs.Ask.{joined}
use Rattle.demands.specs.Faults.{TooShort, OtherLength, BelowHeader, PastRest, OtherVersion, Unknown, Over}
use Rattle.demands.specs.Faults.{NAboveU, WrongForm, OtherSize, BytesLeft, NoList, CountsN, CountsU}
use Rattle.demands.specs.Faults.{PositionsN, PositionsU, PagesU}
use Rattle.demands.specs.Faults.{OutOfOrder, NotBelow, LengthsDisagree, ZeroCount, OtherSum, PlacesDisorder}
use Rattle.demands.specs.BadQuestions.{SomeBad}

infix 70 ◌when◌
pub record Sentence : Type 1 where
  pub refusal : Verdict
  pub holds : Type 0

abbrev pub ◌when◌ : Verdict → Type 0 → Sentence
r when P = record { refusal = r; holds = P }

unfoldable pub First : ℕ → List Sentence → Type 0
First k [] = k ≡ 0
First k (p ∷ ps) = (p.holds × (k ≡ number p.refusal)) ⊎ ((p.holds → ⊥) × First k ps)

-- ---- the checks

abbrev pub alone : ℕ → (List ℕ → List Sentence) → List ℕ → List Sentence
alone h own s = Short when TooShort h s ∷ Length when OtherLength s ∷ own s

abbrev pub inside : ℕ → (List ℕ → List Sentence) → List ℕ → List Sentence
inside h own s =
    Short when TooShort h s
    ∷ Length when BelowHeader h s
    ∷ Length when PastRest s
    ∷ own (take (stated s) s)

abbrev pub list_own : List ℕ → List Sentence
list_own s =
    Version when OtherVersion s
    ∷ Limit when Over limit (list_u s)
    ∷ Layout when NAboveU s
    ∷ Layout when OtherSize s
    ∷ Runs when NoList s
    ∷ []

abbrev pub part_own : ℕ → List ℕ → List Sentence
part_own v s =
    Version when Unknown map_version (get_or s 4 0)
    ∷ Limit when Over limit (list_u s)
    ∷ Layout when NAboveU s
    ∷ Version when WrongForm v s
    ∷ Layout when OtherSize s
    ∷ Runs when NoList s
    ∷ []

abbrev pub list_sentences : List ℕ → List Sentence
list_sentences = alone list_header list_own

abbrev pub disagreements : List ℕ → List Sentence
disagreements s =
    Parts when CountsN s ∷ Parts when CountsU s ∷ Parts when PositionsN s ∷ Parts when PositionsU s ∷ []

abbrev pub term_own : ℕ → List ℕ → List Sentence
term_own v s =
    Version when OtherVersion s
    ∷ Version when Unknown last_edition v
    ∷ inside list_header (part_own v) (lists_of s)
    ++ inside list_header (part_own version) (after 1 (lists_of s))
    ++ inside list_header (part_own version) (after 2 (lists_of s))
    ++ Layout when BytesLeft (after 3 (lists_of s))
    ∷ disagreements s

abbrev pub term_sentences : ℕ → List ℕ → List Sentence
term_sentences v = alone term_header (term_own v)

abbrev pub terms_of : ℕ → ℕ → ℕ → List ℕ → List Sentence
terms_of v zero N s = Layout when BytesLeft s ∷ []
terms_of v (suc T) N s =
    inside term_header (term_own v) s ++ Parts when PagesU N (take (stated s) s) ∷ terms_of v T N (drop (stated s) s)

abbrev pub index_own : List ℕ → List Sentence
index_own s =
    Version when Unknown last_edition (index_v s)
    ∷ Limit when Over limit (index_n s)
    ∷ Limit when Over term_limit (index_t s)
    ∷ terms_of (index_v s) (index_t s) (index_n s) (drop index_header s)

abbrev pub index_sentences : List ℕ → List Sentence
index_sentences = alone index_header index_own

-- ---- the writers and closing

abbrev pub list_writing : ℕ → List ℕ → List ℕ → List Sentence
list_writing U xs room =
    Limit when Over limit U
    ∷ Lists when OutOfOrder xs
    ∷ Lists when NotBelow U xs
    ∷ Room when (length room < length (block U xs))
    ∷ []

abbrev pub term_writing : ℕ → ℕ → Word → List ℕ → List Sentence
term_writing v N t room =
    Version when Unknown last_edition v
    ∷ Limit when Over limit N
    ∷ Lists when LengthsDisagree t
    ∷ Lists when OutOfOrder t.pages
    ∷ Lists when NotBelow N t.pages
    ∷ Lists when ZeroCount t
    ∷ Lists when OtherSum t
    ∷ Lists when PlacesDisorder t
    ∷ Limit when Over limit (next 0 (places t))
    ∷ Room when (length room < length (term_block v N t))
    ∷ []

abbrev pub closing : List ℕ → ℕ → ℕ → ℕ → ℕ → List Sentence
closing buffer used v N T =
    Room when (length buffer < used)
    ∷ Short when (used < index_header)
    ∷ Version when Unknown last_edition v
    ∷ Limit when (four_bytes ≤ used)
    ∷ Limit when Over limit N
    ∷ Limit when Over term_limit T
    ∷ terms_of v T N (drop index_header (take used buffer))

-- ---- a run of questions

abbrev pub asking : List ℕ → List ℕ → List ℕ → List Sentence
asking s qs room =
    index_sentences s
    ++ Question when SomeBad (index_t s) qs
    ∷ Room when (length room < length (joined (replies s (length qs) qs)))
    ∷ []

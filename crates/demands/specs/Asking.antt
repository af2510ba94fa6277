-- A word that may be written, questions as a host writes them, and the words of a card that they name.
--
--   Known v           v is the version of an index [02 f]
--   ValidWord N t     a valid word, with N and the reach of its positions within the limit
--   Query             one question: its kind and its numbers
--   written qs        the questions one after the other: kind, count, numbers
--   Good T qs         each of them may be asked of T words
--   word_at ts t       word number t of the words ts; the word on no page where there is none
--   pages_at ts t      its pages
--   named ts terms    the words that the numbers name, a word named twice standing there twice
--   pages_named ts terms  the pages of each
--   paired terms offsets  pairs of a term and an offset, as a host writes a phrase [02 b]
--   plain v N ts q    the answer to q by plain reading of the words ts of N pages; only the seeks and looks of kind 3
--                     are the step rule's, in an index of version v
--   plain_all v N ts qs  the answer to each, in their order
--   last_of a          the last number of an answer at the front of a: its first number says how many follow
--   upper_runs v N ls  the 64-bit words of the lists' upper runs, or bitmaps [02 f], in an index of version v; a list is
--                     counted as often as it stands there
--   lead_on v N ls, others_on v N ls  the readers with which the step rule begins on the lists ls, each with a cursor of
--                     its own
--   times xs ls       how many of the lists are xs
--   reading_it xs rs   how many of the readers read the list xs
use Rattle.std.specs.Prelude.{true, cond, ◌≡◌, List, [], ◌∷◌, ◌++◌, ℕ, ◌+◌, ◌≤◌, eqb, length, get_or}
use Rattle.rules.specs.Limits.{limit, last_edition}
use Rattle.rules.specs.Bytes.{same}
use Rattle.rules.specs.Term.{Word, next, places, valid_word}
use Rattle.rules.specs.List.{form_of}
use Rattle.rules.specs.Seek.{upper_words}
use Rattle.rules.specs.Common.{Reader, reader, readers_of, lead_pages, other_pages}
use Rattle.rules.specs.Plain.{phrase_of}
use Rattle.rules.specs.Questions.{by_rank, by_bound, by_common, by_phrase, terms_of, offsets_of, good_question}

abbrev pub Known : ℕ → Type 0
Known v = (1 ≤ v) × (v ≤ last_edition)

abbrev pub ValidWord : ℕ → Word → Type 0
ValidWord N t = (valid_word N t ≡ true) × (N ≤ limit) × (next 0 (places t) ≤ limit)

pub record Query : Type 0 where
  pub kind : ℕ
  pub numbers : List ℕ

unfoldable pub written : List Query → List ℕ
written [] = []
written (q ∷ qs) = q.kind ∷ (length q.numbers ∷ (q.numbers ++ written qs))

abbrev pub Good : ℕ → List Query → Type 0
Good T [] = Unit {0}
Good T (q ∷ qs) = (good_question T q.kind q.numbers ≡ true) × Good T qs

abbrev pub word_at : List Word → ℕ → Word
word_at ts t = get_or ts t (record { pages = []; counts = []; positions = [] })

abbrev pub pages_at : List Word → ℕ → List ℕ
pages_at ts t = (word_at ts t).pages

unfoldable pub named : List Word → List ℕ → List Word
named ts [] = []
named ts (t ∷ terms) = word_at ts t ∷ named ts terms

unfoldable pub pages_named : List Word → List ℕ → List (List ℕ)
pages_named ts [] = []
pages_named ts (t ∷ terms) = pages_at ts t ∷ pages_named ts terms

unfoldable pub paired : List ℕ → List ℕ → List ℕ
paired [] ds = []
paired (t ∷ terms) [] = []
paired (t ∷ terms) (d ∷ ds) = t ∷ (d ∷ paired terms ds)

unfoldable pub plain : ℕ → ℕ → List Word → Query → List ℕ
plain v N ts q =
    cond (eqb q.kind 1) (by_rank (pages_at ts (get_or q.numbers 0 0)) (get_or q.numbers 1 0))
    (cond (eqb q.kind 2) (by_bound (pages_at ts (get_or q.numbers 0 0)) (get_or q.numbers 1 0))
    (cond (eqb q.kind 3) (by_common v N (pages_named ts q.numbers))
    (by_phrase (phrase_of (named ts (terms_of q.numbers)) (offsets_of q.numbers)))))

unfoldable pub plain_all : ℕ → ℕ → List Word → List Query → List (List ℕ)
plain_all v N ts [] = []
plain_all v N ts (q ∷ qs) = plain v N ts q ∷ plain_all v N ts qs

abbrev pub last_of : List ℕ → ℕ
last_of a = get_or a (get_or a 0 0) 0

unfoldable pub upper_runs : ℕ → ℕ → List (List ℕ) → ℕ
upper_runs v N [] = 0
upper_runs v N (l ∷ ls) = upper_words (form_of v N (length l)) N l + upper_runs v N ls

abbrev pub lead_on : ℕ → ℕ → List (List ℕ) → Reader
lead_on v N ls = reader v N (lead_pages ls)

abbrev pub others_on : ℕ → ℕ → List (List ℕ) → List Reader
others_on v N ls = readers_of v N (other_pages ls)

unfoldable pub times : List ℕ → List (List ℕ) → ℕ
times xs [] = 0
times xs (l ∷ ls) = cond (same xs l) 1 0 + times xs ls

unfoldable pub reading_it : List ℕ → List Reader → ℕ
reading_it xs [] = 0
reading_it xs (r ∷ rs) = cond (same xs r.pages) 1 0 + reading_it xs rs

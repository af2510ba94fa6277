-- What can be wrong with bytes and with lists handed to a writer, each in document 01's words [01 Numbers of refusal]
-- or in request f's [02 f].
-- Sentences.antt gives each its number and its place; BadQuestions.antt has what can be wrong with a question.
--
-- Bytes s: all that were given, or what remains of their container from there on; h is their header's size.
--   TooShort h s      1: "fewer bytes than the header"
--   OtherLength s     2: "stated length differs from the bytes given"
--   BelowHeader h s   2: "inside a container, it is below the header size"
--   PastRest s        2: "or above what remains"
--   OtherVersion s    3: "version is not 1"
--   Unknown last v    3: "a version that no edition has", of those from 1 to last
--   Over most n       4: "U, N or T over its limit"
--   NAboveU s         5: "n above U"
--   Dense U n         "n at least 1" and "n + Z + n·w exceeds the block's U"
--   WrongForm v s     3: "A form in the wrong place (a bitmap in version 1, for n = 0, for counts or positions, for a
--                     list that is not dense; the old form for a dense one)", of pages in an index of version v; of
--                     counts and positions v is 1
--   OtherSize s       5: "length not the one that U and n give", in the form that the version tells
--   BytesLeft s       5: "bytes left after the last part"
--   BlockOf s xs      the bytes are the block of xs, a valid list below the U that they state, in the form that their
--                     version tells
--   NoList s          6: "runs or pointers are not those of a valid list"; "Wrong numbers inside, spare bits, a wrong
--                     count of ones"
--   CountsN s         7: "counts n against pages n"; s are the bytes of a term
--   OtherEnd s        U is not "the last element plus 1, or 0" of the list whose block the bytes are
--   CountsU s         7: "counts U"
--   PositionsN s      7: "positions n against counts U"
--   PositionsU s      7: "positions U"
--   PagesU N s        7: "pages U against N"
--
-- Lists handed to a writer:
--   OutOfOrder xs     10: "out of order (equal neighbours are)"
--   NotBelow U xs     10: "not below U"
--   LengthsDisagree t 10: "lengths disagree", of pages and counts
--   ZeroCount t       10: "a count is 0"
--   OtherSum t        10: "the counts don't sum to the number of positions"
--   on_page i cs ps    the positions on page number i, of counts cs and positions ps: as many as its count, behind
--                     those of the pages before it
--   PlacesDisorder t  10: "positions are out of order in a page"
use Rattle.std.specs.Prelude.{true, ◌⊎◌, ◌≡◌, List, ℕ, suc, ◌+◌, ◌*◌, ◌≤◌, ◌<◌, length, get_or, take, drop}
use Rattle.rules.specs.Limits.{version, map_version, map_edition}
use Rattle.rules.specs.List.{valid_list, width, zeros, form_size, form_block}
use Rattle.rules.specs.ReadList.{stated, list_u, list_n, form_at}
use Rattle.rules.specs.Term.{Word, total, next}
use Rattle.rules.specs.ReadTerm.{pages_of, counts_of, positions_of}

-- ---- bytes

abbrev pub TooShort : ℕ → List ℕ → Type 0
TooShort h s = length s < h

abbrev pub OtherLength : List ℕ → Type 0
OtherLength s = stated s ≡ length s → ⊥

abbrev pub BelowHeader : ℕ → List ℕ → Type 0
BelowHeader h s = stated s < h

abbrev pub PastRest : List ℕ → Type 0
PastRest s = length s < stated s

abbrev pub OtherVersion : List ℕ → Type 0
OtherVersion s = get_or s 4 0 ≡ version → ⊥

abbrev pub Unknown : ℕ → ℕ → Type 0
Unknown last v = (v < 1) ⊎ (last < v)

abbrev pub Over : ℕ → ℕ → Type 0
Over most n = most < n

abbrev pub NAboveU : List ℕ → Type 0
NAboveU s = list_u s < list_n s

abbrev pub Dense : ℕ → ℕ → Type 0
Dense U n = (1 ≤ n) × (U < n + zeros U (width U n) + n * width U n)

abbrev pub WrongForm : ℕ → List ℕ → Type 0
WrongForm v s =
    ((get_or s 4 0 ≡ map_version) × ((v < map_edition) ⊎ (Dense (list_u s) (list_n s) → ⊥)))
    ⊎ ((get_or s 4 0 ≡ version) × (map_edition ≤ v) × Dense (list_u s) (list_n s))

abbrev pub OtherSize : List ℕ → Type 0
OtherSize s = length s ≡ form_size (form_at s) (list_u s) (list_n s) → ⊥

abbrev pub BytesLeft : List ℕ → Type 0
BytesLeft s = 0 < length s

abbrev pub BlockOf : List ℕ → List ℕ → Type 0
BlockOf s xs = (valid_list (list_u s) xs ≡ true) × (s ≡ form_block (form_at s) (list_u s) xs)

abbrev pub NoList : List ℕ → Type 0
NoList s = (xs : List ℕ) → BlockOf s xs → ⊥

abbrev pub CountsN : List ℕ → Type 0
CountsN s = list_n (counts_of s) ≡ list_n (pages_of s) → ⊥

abbrev pub OtherEnd : List ℕ → Type 0
OtherEnd s = (xs : List ℕ) × BlockOf s xs × (list_u s ≡ next 0 xs → ⊥)

abbrev pub CountsU : List ℕ → Type 0
CountsU s = OtherEnd (counts_of s)

abbrev pub PositionsN : List ℕ → Type 0
PositionsN s = list_n (positions_of s) ≡ list_u (counts_of s) → ⊥

abbrev pub PositionsU : List ℕ → Type 0
PositionsU s = OtherEnd (positions_of s)

abbrev pub PagesU : ℕ → List ℕ → Type 0
PagesU N s = list_u (pages_of s) ≡ N → ⊥

-- ---- lists handed to a writer

abbrev pub OutOfOrder : List ℕ → Type 0
OutOfOrder xs = (i : ℕ) × (suc i < length xs) × (get_or xs (suc i) 0 ≤ get_or xs i 0)

abbrev pub NotBelow : ℕ → List ℕ → Type 0
NotBelow U xs = (i : ℕ) × (i < length xs) × (U ≤ get_or xs i 0)

abbrev pub LengthsDisagree : Word → Type 0
LengthsDisagree t = length t.pages ≡ length t.counts → ⊥

abbrev pub ZeroCount : Word → Type 0
ZeroCount t = (i : ℕ) × (i < length t.counts) × (get_or t.counts i 0 ≡ 0)

abbrev pub OtherSum : Word → Type 0
OtherSum t = total t.counts ≡ length t.positions → ⊥

abbrev pub on_page : ℕ → List ℕ → List ℕ → List ℕ
on_page i cs ps = take (get_or cs i 0) (drop (total (take i cs)) ps)

abbrev pub PlacesDisorder : Word → Type 0
PlacesDisorder t = (i : ℕ) × (i < length t.counts) × OutOfOrder (on_page i t.counts t.positions)

-- Questions over a card [01 Questions]: their answers, and which of them may be asked.
--
--   terms_of args, offsets_of args  the terms of a phrase's pairs of numbers, and their offsets [02 b]
--   answer s kind args     the answer of a well-formed question to the card s; pages, ranks and starts are by plain
--                          reading, and only a kind 3 answer's seeks and looks are the step rule's
--   good_question T kind args  whether a question with all of its numbers may be asked of T words
--   well_formed T f qs      whether all of the at most f questions are well formed
--   replies s f qs         their answers
use Rattle.std.specs.Prelude.{Bool, true, false, cond, ◌&&◌, ◌||◌, List, [], ◌∷◌, ℕ, zero, suc, ◌+◌, ◌*◌, ltb, leb, eqb, length, get_or, take, drop}
use Rattle.rules.specs.Limits.{phrase_limit, offset_limit}
use Rattle.rules.specs.List.{rising}
use Rattle.rules.specs.Term.{Word}
use Rattle.rules.specs.Index.{index_v, index_n, word_of}
use Rattle.rules.specs.Seek.{none, page}
use Rattle.rules.specs.Common.{common}
use Rattle.rules.specs.Plain.{first_from, common_pages, InPhrase, phrase_of, with_starts}

-- a number of numbers, and the numbers
unfoldable pub numbered : List ℕ → List ℕ
numbered xs = length xs ∷ xs

unfoldable pub pages_in : List ℕ → ℕ → List ℕ
pages_in s t = (word_of t s).pages

unfoldable pub lists_in : List ℕ → List ℕ → List (List ℕ)
lists_in s [] = []
lists_in s (t ∷ ts) = pages_in s t ∷ lists_in s ts

unfoldable pub words_in : List ℕ → List ℕ → List Word
words_in s [] = []
words_in s (t ∷ ts) = word_of t s ∷ words_in s ts

unfoldable pub by_rank : List ℕ → ℕ → List ℕ
by_rank xs r = cond (ltb r (length xs)) (numbered (get_or xs r 0 ∷ [])) (numbered [])

unfoldable pub by_bound : List ℕ → ℕ → List ℕ
by_bound xs b = elim (first_from b 0 xs) [ none n ↦ numbered (n ∷ []) | page x i ↦ numbered (x ∷ (i ∷ [])) ]

unfoldable pub by_common : ℕ → ℕ → List (List ℕ) → List ℕ
by_common v N ls = numbered ((common v N ls).seeks ∷ ((common v N ls).looks ∷ common_pages ls))

unfoldable pub by_phrase : List InPhrase → List ℕ
by_phrase [] = numbered []
by_phrase (t ∷ ts) = numbered (with_starts (t ∷ ts) t.word.pages)

-- pairs: term, offset
unfoldable pub terms_of : List ℕ → List ℕ
terms_of [] = []
terms_of (t ∷ []) = []
terms_of (t ∷ (d ∷ args)) = t ∷ terms_of args

unfoldable pub offsets_of : List ℕ → List ℕ
offsets_of [] = []
offsets_of (t ∷ []) = []
offsets_of (t ∷ (d ∷ args)) = d ∷ offsets_of args

unfoldable pub phrase_in : List ℕ → List ℕ → List InPhrase
phrase_in s args = phrase_of (words_in s (terms_of args)) (offsets_of args)

unfoldable pub answer : List ℕ → ℕ → List ℕ → List ℕ
answer s kind args =
    cond (eqb kind 1) (by_rank (pages_in s (get_or args 0 0)) (get_or args 1 0))
    (cond (eqb kind 2) (by_bound (pages_in s (get_or args 0 0)) (get_or args 1 0))
    (cond (eqb kind 3) (by_common (index_v s) (index_n s) (lists_in s args))
    (by_phrase (phrase_in s args))))

unfoldable pub all_below : ℕ → List ℕ → Bool
all_below T [] = true
all_below T (t ∷ ts) = ltb t T && all_below T ts

-- a term, and one number more
unfoldable pub pair_good : ℕ → List ℕ → Bool
pair_good T args = eqb (length args) 2 && ltb (get_or args 0 0) T

-- one to eight terms
unfoldable pub words_good : ℕ → List ℕ → Bool
words_good T ts = leb 1 (length ts) && (leb (length ts) phrase_limit && all_below T ts)

-- the first is 0, and they rise up to the limit
unfoldable pub offsets_good : List ℕ → Bool
offsets_good ds = eqb (get_or ds 0 0) 0 && rising 0 (offset_limit + 1) ds

-- pairs of a term and an offset, and no number more
unfoldable pub phrase_good : ℕ → List ℕ → Bool
phrase_good T args =
    eqb (length args) (2 * length (terms_of args)) && (words_good T (terms_of args) && offsets_good (offsets_of args))

-- a question of this kind may be asked of T words with these numbers
unfoldable pub good_question : ℕ → ℕ → List ℕ → Bool
good_question T kind args =
    cond (eqb kind 1 || eqb kind 2) (pair_good T args)
    (cond (eqb kind 3) (words_good T args) (eqb kind 4 && phrase_good T args))

-- the front question of qs: kind, count c, c numbers, and what is behind it
unfoldable pub kind_of : List ℕ → ℕ
kind_of qs = get_or qs 0 0

unfoldable pub count_of : List ℕ → ℕ
count_of qs = get_or qs 1 0

unfoldable pub args_of : List ℕ → List ℕ
args_of qs = take (count_of qs) (drop 2 qs)

unfoldable pub behind : List ℕ → List ℕ
behind qs = drop (2 + count_of qs) qs

unfoldable pub well_formed : ℕ → ℕ → List ℕ → Bool
well_formed T zero qs = eqb (length qs) 0
well_formed T (suc f) qs =
    eqb (length qs) 0
    || (leb (2 + count_of qs) (length qs)
    && (good_question T (kind_of qs) (args_of qs) && well_formed T f (behind qs)))

unfoldable pub replies : List ℕ → ℕ → List ℕ → List (List ℕ)
replies s zero qs = []
replies s (suc f) qs =
    elim (eqb (length qs) 0) [
      | true ↦ []
      | false ↦ answer s (kind_of qs) (args_of qs) ∷ replies s f (behind qs)
    ]

-- What plain reading of the lists gives [01 Questions].
--
--   first_from b i xs    the first element at least b with its number, xs those from number i on; or none, with the
--                       number of all
--   below b xs          how many of xs are below b [02 a]
--   at_least b xs        those of xs that are at least b [02 e]
--   in_all x ls          whether x is in every list
--   common_pages ls      the pages that all the lists hold
--   positions_on p t     the positions of word t on page p
--   phrase_of ts ds      the words ts as a phrase, each with its offset of ds [02 b]
--   stands ts p a       whether each word of the phrase ts stands at a plus its offset on page p [02 b]
--   starts ts p         how many starts the phrase ts has on page p
--   with_starts ts ps    each of the pages ps that has a start, with the number of its starts
use Rattle.std.specs.Prelude.{Bool, true, false, cond, ◌&&◌, ◌||◌, List, [], ◌∷◌, ◌++◌, ℕ, ◌+◌, ltb, leb, eqb, take, drop}
use Rattle.rules.specs.Term.{Word}
use Rattle.rules.specs.Seek.{Found, none, page}

unfoldable pub first_from : ℕ → ℕ → List ℕ → Found
first_from b i [] = none i
first_from b i (x ∷ xs) = elim (leb b x) [ true ↦ page x i | false ↦ first_from b (i + 1) xs ]

unfoldable pub below : ℕ → List ℕ → ℕ
below b [] = 0
below b (x ∷ xs) = cond (ltb x b) 1 0 + below b xs

unfoldable pub at_least : ℕ → List ℕ → List ℕ
at_least b [] = []
at_least b (x ∷ xs) = elim (leb b x) [ true ↦ x ∷ at_least b xs | false ↦ at_least b xs ]

unfoldable pub member : ℕ → List ℕ → Bool
member x [] = false
member x (y ∷ ys) = eqb x y || member x ys

unfoldable pub in_all : ℕ → List (List ℕ) → Bool
in_all x [] = true
in_all x (l ∷ ls) = member x l && in_all x ls

-- those of the pages xs that are in every list of ls
unfoldable pub shared_by : List (List ℕ) → List ℕ → List ℕ
shared_by ls [] = []
shared_by ls (x ∷ xs) = cond (in_all x ls) (x ∷ []) [] ++ shared_by ls xs

unfoldable pub common_pages : List (List ℕ) → List ℕ
common_pages [] = []
common_pages (l ∷ ls) = shared_by ls l

unfoldable pub positions_among : ℕ → List ℕ → List ℕ → List ℕ → List ℕ
positions_among p [] cs ps = []
positions_among p (q ∷ qs) [] ps = []
positions_among p (q ∷ qs) (c ∷ cs) ps =
    elim (eqb p q) [ true ↦ take c ps | false ↦ positions_among p qs cs (drop c ps) ]

unfoldable pub positions_on : ℕ → Word → List ℕ
positions_on p t = positions_among p t.pages t.counts t.positions

-- a word of a phrase, and how far behind the phrase's start it has to stand
pub record InPhrase : Type 0 where
  pub word : Word
  pub offset : ℕ

unfoldable pub phrase_of : List Word → List ℕ → List InPhrase
phrase_of [] ds = []
phrase_of (t ∷ ts) [] = []
phrase_of (t ∷ ts) (d ∷ ds) = record { word = t; offset = d } ∷ phrase_of ts ds

unfoldable pub stands : List InPhrase → ℕ → ℕ → Bool
stands [] p a = true
stands (t ∷ ts) p a = member (a + t.offset) (positions_on p t.word) && stands ts p a

-- how many of the positions qs are starts
unfoldable pub starts_among : List InPhrase → ℕ → List ℕ → ℕ
starts_among ts p [] = 0
starts_among ts p (q ∷ qs) = cond (stands ts p q) 1 0 + starts_among ts p qs

-- the first word has offset 0, so that each start is one of its positions
unfoldable pub starts : List InPhrase → ℕ → ℕ
starts [] p = 0
starts (t ∷ ts) p = starts_among (t ∷ ts) p (positions_on p t.word)

unfoldable pub with_starts : List InPhrase → List ℕ → List ℕ
with_starts ts [] = []
with_starts ts (p ∷ ps) = cond (ltb 0 (starts ts p)) (p ∷ (starts ts p ∷ [])) [] ++ with_starts ts ps

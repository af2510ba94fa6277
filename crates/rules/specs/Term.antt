-- One word of the manual and its block [01 One word of the manual, and the index].
--
--   Word              pages, the count of each, and the positions of all pages one after the other
--   lent_word ps cs qs  the word that three lent lists make: pages, counts and positions
--   total cs          the sum of the counts
--   sums s cs         each element the sum of the counts so far, from s on, less 1
--   next b es         the last element plus 1, or b where there is none
--   raised b ps       base + position, for each
--   placed b cs ps    the positions' elements; b is the first page's base
--   places t          those of a word
--   valid_word N t     what the writer of a term asks, its refusal 10
--   pages_form v N t   the form of its pages in an index of version v [02 f]
--   term_block v N t   the block, in an index of version v
--   write_term v N t room  the writer of a term
--
--   block, in bytes: 0 length (4) | 4 version (1) | 5 pages | counts | positions
use Rattle.std.specs.Prelude.{Bool, true, false, cond, not, ◌&&◌, List, [], ◌∷◌, ◌++◌, ℕ, ◌+◌, ◌-◌, ltb, leb, eqb, length, take, drop}
use Rattle.rules.specs.Verdict.{Version, Limit, Lists}
use Rattle.rules.specs.Limits.{limit, version, last_edition, up_to}
use Rattle.rules.specs.Bytes.{sized}
use Rattle.rules.specs.List.{rising, block, Form, form_of, form_block}
use Rattle.rules.specs.Write.{Made, refused, stored}

pub record Word : Type 0 where
  pub pages : List ℕ
  pub counts : List ℕ
  pub positions : List ℕ

abbrev pub lent_word : List ℕ → List ℕ → List ℕ → Word
lent_word ps cs qs = record { pages = ps; counts = cs; positions = qs }

unfoldable pub total : List ℕ → ℕ
total [] = 0
total (c ∷ cs) = c + total cs

unfoldable pub sums : ℕ → List ℕ → List ℕ
sums s [] = []
sums s (c ∷ cs) = (s + c - 1) ∷ sums (s + c) cs

unfoldable pub next : ℕ → List ℕ → ℕ
next b [] = b
next b (e ∷ es) = next (e + 1) es

unfoldable pub raised : ℕ → List ℕ → List ℕ
raised b [] = []
raised b (p ∷ ps) = (b + p) ∷ raised b ps

unfoldable pub placed : ℕ → List ℕ → List ℕ → List ℕ
placed b [] ps = []
placed b (c ∷ cs) ps = raised b (take c ps) ++ placed (next b (raised b (take c ps))) cs (drop c ps)

unfoldable pub places : Word → List ℕ
places t = placed 0 t.counts t.positions

-- every count is at least 1
unfoldable pub positive : List ℕ → Bool
positive [] = true
positive (c ∷ cs) = ltb 0 c && positive cs

-- positions rise strictly, from lo at the least
unfoldable pub in_order : ℕ → List ℕ → Bool
in_order lo [] = true
in_order lo (p ∷ ps) = leb lo p && in_order (p + 1) ps

-- and do so within each page
unfoldable pub in_order_by_page : List ℕ → List ℕ → Bool
in_order_by_page [] ps = true
in_order_by_page (c ∷ cs) ps = in_order 0 (take c ps) && in_order_by_page cs (drop c ps)

unfoldable pub valid_word : ℕ → Word → Bool
valid_word N t =
    eqb (length t.pages) (length t.counts)
    && (rising 0 N t.pages
    && (positive t.counts
    && (eqb (total t.counts) (length t.positions) && in_order_by_page t.counts t.positions)))

abbrev pub pages_form : ℕ → ℕ → Word → Form
pages_form v N t = form_of v N (length t.pages)

unfoldable pub term_block : ℕ → ℕ → Word → List ℕ
term_block v N t =
    sized (version ∷
    (form_block (pages_form v N t) N t.pages
    ++ (block (total t.counts) (sums 0 t.counts)
    ++ block (next 0 (places t)) (places t))))

unfoldable pub write_term : ℕ → ℕ → Word → List ℕ → Made
write_term v N t room =
    cond (not (up_to last_edition v)) (refused Version room)
    (cond (ltb limit N) (refused Limit room)
    (cond (not (valid_word N t)) (refused Lists room)
    (cond (ltb limit (next 0 (places t))) (refused Limit room)
    (stored (term_block v N t) room))))

-- Reading a term block plainly, and the refusal that bytes get as one [01 One word, Numbers of refusal].
--
--   pages_of, counts_of, positions_of  its three list blocks
--   gaps s es        the counts whose sums, from s on, less 1, are es
--   lowered b cs es  the positions whose elements are es; b is the first page's base
--   read_word s       the word that the bytes hold
--   disagree s       whether its parts disagree, refusal 7
--   term_refusal v s  the refusal as a word of an index of version v, the first one found
use Rattle.std.specs.Prelude.{Bool, cond, not, ◌||◌, List, [], ◌∷◌, ◌++◌, ℕ, ◌+◌, ◌-◌, ltb, eqb, length, get_or, take, drop}
use Rattle.rules.specs.Verdict.{Verdict}
use Rattle.rules.specs.Verdict.{Accepted, Short, Length, Version, Layout, Parts}
use Rattle.rules.specs.Refusal.{and_then}
use Rattle.rules.specs.Limits.{version, last_edition, list_header, term_header, up_to}
use Rattle.rules.specs.ReadList.{stated, list_u, list_n, decode, part_refusal}
use Rattle.rules.specs.Term.{Word, next}
use Rattle.rules.specs.Parts.{after, part, inside}

-- the lists of a term, one after the other
unfoldable pub lists_of : List ℕ → List ℕ
lists_of s = drop 5 s

unfoldable pub pages_of : List ℕ → List ℕ
pages_of s = part 0 (lists_of s)

unfoldable pub counts_of : List ℕ → List ℕ
counts_of s = part 1 (lists_of s)

unfoldable pub positions_of : List ℕ → List ℕ
positions_of s = part 2 (lists_of s)

unfoldable pub gaps : ℕ → List ℕ → List ℕ
gaps s [] = []
gaps s (e ∷ es) = (e + 1 - s) ∷ gaps (e + 1) es

-- each less b
unfoldable pub less : ℕ → List ℕ → List ℕ
less b [] = []
less b (e ∷ es) = (e - b) ∷ less b es

unfoldable pub lowered : ℕ → List ℕ → List ℕ → List ℕ
lowered b [] es = []
lowered b (c ∷ cs) es = less b (take c es) ++ lowered (next b (take c es)) cs (drop c es)

unfoldable pub read_word : List ℕ → Word
read_word s = record {
  pages = decode (pages_of s);
  counts = gaps 0 (decode (counts_of s));
  positions = lowered 0 (gaps 0 (decode (counts_of s))) (decode (positions_of s));
}

unfoldable pub disagree : List ℕ → Bool
disagree s =
    not (eqb (list_n (counts_of s)) (list_n (pages_of s)))
    || (not (eqb (list_u (counts_of s)) (next 0 (decode (counts_of s))))
    || (not (eqb (list_n (positions_of s)) (list_u (counts_of s)))
    || not (eqb (list_u (positions_of s)) (next 0 (decode (positions_of s))))))

unfoldable pub term_refusal : ℕ → List ℕ → Verdict
term_refusal v s =
    cond (ltb (length s) term_header) Short
    (cond (not (eqb (stated s) (length s))) Length
    (cond (not (up_to version (get_or s 4 0))) Version
    (cond (not (up_to last_edition v)) Version
    (and_then (inside list_header (part_refusal v) (lists_of s))
    (and_then (inside list_header (part_refusal version) (after 1 (lists_of s)))
    (and_then (inside list_header (part_refusal version) (after 2 (lists_of s)))
    (cond (ltb 0 (length (after 3 (lists_of s)))) Layout
    (cond (disagree s) Parts Accepted))))))))

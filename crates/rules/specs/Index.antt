-- An index of many words: its block, reading one, and closing one [01 One word of the manual, and the index].
--
--   valid_card v N ts   the version, N, T and every word within their rules, and the length within four bytes
--   card v N ts        the index block of version v of the words ts
--   index_v s, index_n s, index_t s   the version, N and T that bytes state
--   term_part t s       the block of term number t
--   word_of t s         the word that it holds
--   words_of s          all of them
--   index_refusal s     the refusal that bytes get as an index, the first one found
--   close_index buffer used v N T  closing an index of version v in a lent buffer
--
--   block, in bytes: 0 length (4) | 4 version (1) | 5 N (4) | 9 T (2) | 11 terms
use Rattle.std.specs.Prelude.{Bool, true, false, cond, not, ◌&&◌, ◌||◌, List, [], ◌∷◌, ◌++◌, ℕ, zero, suc, ◌+◌, ltb, leb, eqb, length, get_or, take, drop}
use Rattle.rules.specs.Verdict.{Verdict}
use Rattle.rules.specs.Verdict.{Accepted, Short, Length, Version, Limit, Layout, Parts}
use Rattle.rules.specs.Verdict.{Room}
use Rattle.rules.specs.Refusal.{accepted}
use Rattle.rules.specs.Limits.{limit, term_limit, last_edition, up_to, term_header, index_header, four_bytes}
use Rattle.rules.specs.Bytes.{be, be_at}
use Rattle.rules.specs.ReadList.{stated, list_u}
use Rattle.rules.specs.Write.{Made, refused, laid}
use Rattle.rules.specs.Term.{Word, next, places, valid_word, term_block}
use Rattle.rules.specs.Parts.{part, inside}
use Rattle.rules.specs.ReadTerm.{pages_of, read_word, term_refusal}

-- the header of an index of so many bytes
unfoldable pub index_front : ℕ → ℕ → ℕ → ℕ → List ℕ
index_front size v N T = be 4 size ++ (v ∷ (be 4 N ++ be 2 T))

-- term blocks, one after the other
unfoldable pub terms : ℕ → ℕ → List Word → List ℕ
terms v N [] = []
terms v N (t ∷ ts) = term_block v N t ++ terms v N ts

unfoldable pub card : ℕ → ℕ → List Word → List ℕ
card v N ts = index_front (index_header + length (terms v N ts)) v N (length ts) ++ terms v N ts

-- every word can be written
unfoldable pub valid_words : ℕ → List Word → Bool
valid_words N [] = true
valid_words N (t ∷ ts) = valid_word N t && (leb (next 0 (places t)) limit && valid_words N ts)

unfoldable pub valid_card : ℕ → ℕ → List Word → Bool
valid_card v N ts =
    up_to last_edition v
    && (leb N limit
    && (leb (length ts) term_limit && (valid_words N ts && ltb (index_header + length (terms v N ts)) four_bytes)))

unfoldable pub index_v : List ℕ → ℕ
index_v s = get_or s 4 0

unfoldable pub index_n : List ℕ → ℕ
index_n s = be_at 4 s 5

unfoldable pub index_t : List ℕ → ℕ
index_t s = be_at 2 s 9

unfoldable pub term_part : ℕ → List ℕ → List ℕ
term_part t s = part t (drop index_header s)

unfoldable pub word_of : ℕ → List ℕ → Word
word_of t s = read_word (term_part t s)

-- c words, from number t on
unfoldable pub words_from : ℕ → ℕ → List ℕ → List Word
words_from zero t s = []
words_from (suc c) t s = word_of t s ∷ words_from c (t + 1) s

unfoldable pub words_of : List ℕ → List Word
words_of s = words_from (index_t s) 0 s

-- the refusal of T term blocks of an index of version v, and of what is left behind them
unfoldable pub terms_refusal : ℕ → ℕ → ℕ → List ℕ → Verdict
terms_refusal v zero N s = cond (ltb 0 (length s)) Layout Accepted
terms_refusal v (suc T) N s =
    elim (accepted (inside term_header (term_refusal v) s)) [
      | false ↦ inside term_header (term_refusal v) s
      | true ↦ elim (eqb (list_u (pages_of (take (stated s) s))) N) [
        | false ↦ Parts
        | true ↦ terms_refusal v T N (drop (stated s) s)
      ]
    ]

unfoldable pub index_refusal : List ℕ → Verdict
index_refusal s =
    cond (ltb (length s) index_header) Short
    (cond (not (eqb (stated s) (length s))) Length
    (cond (not (up_to last_edition (index_v s))) Version
    (cond (ltb limit (index_n s) || ltb term_limit (index_t s)) Limit
    (terms_refusal (index_v s) (index_t s) (index_n s) (drop index_header s)))))

-- the refusal of closing, before anything is written
unfoldable pub close_refusal : List ℕ → ℕ → ℕ → ℕ → ℕ → Verdict
close_refusal buffer used v N T =
    cond (ltb (length buffer) used) Room
    (cond (ltb used index_header) Short
    (cond (not (up_to last_edition v)) Version
    (cond (leb four_bytes used || (ltb limit N || ltb term_limit T)) Limit
    (terms_refusal v T N (drop index_header (take used buffer))))))

unfoldable pub close_index : List ℕ → ℕ → ℕ → ℕ → ℕ → Made
close_index buffer used v N T =
    cond (accepted (close_refusal buffer used v N T))
    (record { refusal = Accepted; size = used; room = laid (index_front used v N T) buffer })
    (refused (close_refusal buffer used v N T) buffer)

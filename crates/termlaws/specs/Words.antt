-- What is asked of a word and of a term's bytes, each part by itself.
--
--   list_at k s     the byte of s at which its list number k starts, by the lengths that those before it state
--   Agreeing N t   valid_word, its parts by name
--   Writable v N t what the writer of a term asks before room: a known version, a valid word, N and the positions' U
--                  within the limit
--   Passed v s     termRefusal's tests, by name
--   Sizes s        at least a term's header, at most what four bytes state, and stated so
--   ListsPass v s  the three lists of a term are accepted as lists, the pages in an index of version v, and where they lie
--   Written v N t room  what a success of the writer of a term leaves
use Rattle.std.specs.Prelude.{true, ◌≡◌, List, [], ℕ, ◌≤◌, ◌<◌, length, take, drop}
use Rattle.rules.specs.Verdict.{Accepted}
use Rattle.rules.specs.Limits.{limit, version, last_edition, up_to, list_header, term_header, four_bytes}
use Rattle.rules.specs.List.{rising}
use Rattle.rules.specs.ReadList.{stated, list_u, list_n, decode, list_refusal, part_refusal}
use Rattle.rules.specs.Term.{Word, total, next, places, positive, in_order_by_page, valid_word, term_block, write_term}
use Rattle.rules.specs.Parts.{after, inside}
use Rattle.rules.specs.ReadTerm.{lists_of, pages_of, counts_of, positions_of, read_word, term_refusal}
use Rattle.laws.specs.Blocks.{Headed, block_at, Lies}

abbrev pub list_at : ℕ → List ℕ → ℕ
list_at k s = block_at 5 k s

pub record Agreeing (N : ℕ) (t : Word) : Type 0 where
  pub lengths : length t.pages ≡ length t.counts
  pub rises : rising 0 N t.pages ≡ true
  pub counted : positive t.counts ≡ true
  pub summed : total t.counts ≡ length t.positions
  pub ordered : in_order_by_page t.counts t.positions ≡ true

pub record Writable (v N : ℕ) (t : Word) : Type 0 where
  pub known : up_to last_edition v ≡ true
  pub valid : valid_word N t ≡ true
  pub within : N ≤ limit
  pub reach : next 0 (places t) ≤ limit

pub record Passed (v : ℕ) (s : List ℕ) : Type 0 where
  pub head : Headed term_header version s
  pub known : up_to last_edition v ≡ true
  pub pages_pass : inside list_header (part_refusal v) (lists_of s) ≡ Accepted
  pub counts_pass : inside list_header (part_refusal version) (after 1 (lists_of s)) ≡ Accepted
  pub positions_pass : inside list_header (part_refusal version) (after 2 (lists_of s)) ≡ Accepted
  pub no_more : after 3 (lists_of s) ≡ []
  pub counts_n : list_n (counts_of s) ≡ list_n (pages_of s)
  pub counts_U : list_u (counts_of s) ≡ next 0 (decode (counts_of s))
  pub positions_n : list_n (positions_of s) ≡ list_u (counts_of s)
  pub positions_U : list_u (positions_of s) ≡ next 0 (decode (positions_of s))

pub record Sizes (s : List ℕ) : Type 0 where
  pub header : term_header ≤ length s
  pub short : length s < four_bytes
  pub states : stated s ≡ length s

pub record ListsPass (v : ℕ) (s : List ℕ) : Type 0 where
  pub pages : part_refusal v (pages_of s) ≡ Accepted
  pub counts : list_refusal (counts_of s) ≡ Accepted
  pub positions : list_refusal (positions_of s) ≡ Accepted
  pub pages_at : Lies list_header (list_at 0 s) s (pages_of s)
  pub counts_at : Lies list_header (list_at 1 s) s (counts_of s)
  pub positions_at : Lies list_header (list_at 2 s) s (positions_of s)

pub record Written (v N : ℕ) (t : Word) (room : List ℕ) : Type 0 where
  pub writable : Writable v N t
  pub fits : length (term_block v N t) ≤ length room
  pub front : take (write_term v N t room).size (write_term v N t room).room ≡ term_block v N t
  pub past : drop (write_term v N t room).size (write_term v N t room).room ≡ drop (write_term v N t room).size room
  pub accepts : term_refusal v (take (write_term v N t room).size (write_term v N t room).room) ≡ Accepted
  pub reads : read_word (take (write_term v N t room).size (write_term v N t room).room) ≡ t

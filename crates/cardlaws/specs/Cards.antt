-- What is asked of an index and of closing one, each part by itself, and where a term lies.
--
--   term_at t s           the byte of s at which block number t starts, by the lengths that those before it state
--   Valid v N ts           valid_card, its parts by name
--   Passed s             indexRefusal's tests, by name
--   TermIn t s           term number t of an accepted index: accepted, of its N, and where its bytes lie
--   Closable buffer used v N T  closeRefusal's tests, by name
--   Closed buffer used v N T    what closing leaves: an accepted index of that version, N and T with the terms that lay there
use Rattle.std.specs.Prelude.{true, ◌≡◌, List, ℕ, ◌+◌, ◌≤◌, ◌<◌, length, take, drop}
use Rattle.rules.specs.Verdict.{Accepted}
use Rattle.rules.specs.Limits.{limit, term_limit, last_edition, up_to, term_header, index_header, four_bytes}
use Rattle.rules.specs.ReadList.{list_u}
use Rattle.rules.specs.Term.{Word}
use Rattle.rules.specs.ReadTerm.{pages_of, term_refusal}
use Rattle.rules.specs.Index.{terms, valid_words, index_v, index_n, index_t, term_part, terms_refusal, index_refusal}
use Rattle.rules.specs.Index.{close_index}
use Rattle.laws.specs.Blocks.{Headed, block_at, Lies}

abbrev pub term_at : ℕ → List ℕ → ℕ
term_at t s = block_at index_header t s

pub record Valid (v N : ℕ) (ts : List Word) : Type 0 where
  pub known : up_to last_edition v ≡ true
  pub within : N ≤ limit
  pub few : length ts ≤ term_limit
  pub words : valid_words N ts ≡ true
  pub short : index_header + length (terms v N ts) < four_bytes

pub record Passed (s : List ℕ) : Type 0 where
  pub head : Headed index_header last_edition s
  pub within : index_n s ≤ limit
  pub few : index_t s ≤ term_limit
  pub terms_pass : terms_refusal (index_v s) (index_t s) (index_n s) (drop index_header s) ≡ Accepted

pub record TermIn (t : ℕ) (s : List ℕ) : Type 0 where
  pub accepts : term_refusal (index_v s) (term_part t s) ≡ Accepted
  pub same_N : list_u (pages_of (term_part t s)) ≡ index_n s
  pub lies : Lies term_header (term_at t s) s (term_part t s)

pub record Closable (buffer : List ℕ) (used v N T : ℕ) : Type 0 where
  pub fits : used ≤ length buffer
  pub header : index_header ≤ used
  pub known : up_to last_edition v ≡ true
  pub short : used < four_bytes
  pub within : N ≤ limit
  pub few : T ≤ term_limit
  pub terms_pass : terms_refusal v T N (drop index_header (take used buffer)) ≡ Accepted

pub record Closed (buffer : List ℕ) (used v N T : ℕ) : Type 0 where
  pub accepts : index_refusal (take used (close_index buffer used v N T).room) ≡ Accepted
  pub V-is : index_v (take used (close_index buffer used v N T).room) ≡ v
  pub N-is : index_n (take used (close_index buffer used v N T).room) ≡ N
  pub T-is : index_t (take used (close_index buffer used v N T).room) ≡ T
  pub same_terms : drop index_header (take used (close_index buffer used v N T).room) ≡ drop index_header (take used buffer)
  pub others_same : drop index_header (close_index buffer used v N T).room ≡ drop index_header buffer
  pub length_same : length (close_index buffer used v N T).room ≡ length buffer

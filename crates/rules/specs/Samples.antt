-- What a sample of document 01 says, and whether the definitions give it [01 Sample cards]. The samples are in Table.antt.
--
--   Row       a sample of one of fourteen kinds
--   holds r   whether the definitions give what the row says
--   every rs  whether they do so for all of the rows
use Rattle.std.specs.Prelude.{Bool, true, false, cond, not, ◌&&◌, ◌||◌, List, [], ◌∷◌, ℕ, ltb, eqb, length, take, replicate}
use Rattle.rules.specs.Verdict.{Accepted}
use Rattle.rules.specs.Verdict.{Verdict}
use Rattle.rules.specs.Refusal.{number, accepted}
use Rattle.rules.specs.Bytes.{same}
use Rattle.rules.specs.List.{valid_list, block, Form}
use Rattle.rules.specs.ReadList.{list_u, decode, list_refusal}
use Rattle.rules.specs.Write.{Made, laid, write_list}
use Rattle.rules.specs.Term.{Word, valid_word, term_block, write_term}
use Rattle.rules.specs.ReadTerm.{read_word, term_refusal}
use Rattle.rules.specs.Stream.{Streaming, begin_term, together, stream_word}
use Rattle.rules.specs.Index.{valid_card, card, index_refusal}
use Rattle.rules.specs.Seek.{Cursor, fresh, Found, none, page, Sought, seek}
use Rattle.rules.specs.Common.{common}
use Rattle.rules.specs.Plain.{common_pages}
use Rattle.rules.specs.Ask.{Asked, ask}
use Rattle.rules.specs.Screen.{Screening, screen}
use Rattle.rules.specs.Program.{printed}

-- one seek of a sequence on one cursor: the bound, what is found, and the looks
pub record Step : Type 0 where
  pub bound : ℕ
  pub found : Found
  pub looks : ℕ

pub data Row : Type 0 where
  -- the block of the list xs below U, which is valid and reads back
  listed : List ℕ → ℕ → List ℕ → Row
  -- bytes that are refused as a list, and as an index
  not_list : List ℕ → Verdict → Row
  not_index : List ℕ → Verdict → Row
  -- the block of a word of N pages in an index of version v, which is accepted and reads back
  termed : List ℕ → ℕ → ℕ → Word → Row
  -- bytes that are refused as a word of an index of version v
  not_term : ℕ → List ℕ → Verdict → Row
  -- seeks on the list xs below U, stored in a form
  sought : Form → ℕ → List ℕ → List Step → Row
  -- seeks, looks and pages of the rule on lists below U in an index of version v
  tallied : ℕ → ℕ → List (List ℕ) → ℕ → ℕ → List ℕ → Row
  -- the card of version v of N and words
  indexed : List ℕ → ℕ → ℕ → List Word → Row
  -- a list below U written into so much room, and the refusal
  written : ℕ → List ℕ → ℕ → Verdict → Row
  -- a version, N, pages, positions and U announced, the size of the room, and the refusal
  begun : ℕ → ℕ → ℕ → ℕ → ℕ → ℕ → Verdict → Row
  -- the same with runs and the close, and its refusal; a finished block is the one that the writer of a term gives
  streamed : ℕ → ℕ → ℕ → ℕ → ℕ → List Word → ℕ → Verdict → Row
  -- a card, questions, the size of the room, the refusal, the number answered and all answers
  asked : List ℕ → List ℕ → ℕ → Verdict → ℕ → List ℕ → Row
  -- a card, the bound, r and the words of a screen, the sizes of the rooms for pages and for counts, the refusal, the
  -- pages, the next bound of a full screen, else 0, and the counts
  screened : List ℕ → ℕ → ℕ → List ℕ → ℕ → ℕ → Verdict → List ℕ → ℕ → List ℕ → Row
  -- a card file, a question file and the program's text
  shown : List ℕ → List ℕ → List ℕ → Row

unfoldable pub same_refusal : Verdict → Verdict → Bool
same_refusal r q = eqb (number r) (number q)

unfoldable pub same_found : Found → Found → Bool
same_found (none n) (none m) = eqb n m
same_found (none n) (page x i) = false
same_found (page y j) (none m) = false
same_found (page y j) (page x i) = eqb y x && eqb j i

unfoldable pub sought_so : Form → ℕ → List ℕ → Cursor → List Step → Bool
sought_so f U xs c [] = true
sought_so f U xs c (t ∷ ts) =
    let s : Sought = seek f U xs c t.bound in
    same_found s.found t.found && (eqb s.looks t.looks && sought_so f U xs s.cursor ts)

unfoldable pub holds : Row → Bool
holds (listed s U xs) =
    valid_list U xs
    && (same_refusal (list_refusal s) Accepted
    && (eqb (list_u s) U && (same (decode s) xs && same (block U xs) s)))
holds (not_list s r) = same_refusal (list_refusal s) r
holds (not_index s r) = same_refusal (index_refusal s) r
holds (termed s v N t) =
    valid_word N t
    && (same_refusal (term_refusal v s) Accepted && (same (term_block v N t) s && same (read_word s).pages t.pages))
holds (not_term v s r) = same_refusal (term_refusal v s) r
holds (sought f U xs ts) = sought_so f U xs fresh ts
holds (tallied v U ls seeks looks pages) =
    eqb (common v U ls).seeks seeks
    && (eqb (common v U ls).looks looks && (same (common v U ls).listed pages && same (common_pages ls) pages))
holds (indexed s v N ts) = valid_card v N ts && (same_refusal (index_refusal s) Accepted && same (card v N ts) s)
holds (written U xs size r) = same_refusal (write_list U xs (replicate size 0)).refusal r
holds (begun v N P Q U size r) = same_refusal (begin_term v N P Q U (replicate size 7)).refusal r
holds (streamed v N P Q U ts size r) =
    let a : Streaming = stream_word v N P Q U ts (replicate size 7) in
    let m : Made = write_term v N (together ts) (replicate size 7) in
    same_refusal a.refusal r
    && (not (accepted r) || (same_refusal m.refusal r && (eqb a.size m.size && same a.room m.room)))
holds (asked s qs size r k answers) =
    let a : Asked = ask s qs (replicate size 0) in
    same_refusal a.refusal r
    && (eqb a.answered k && (eqb a.used (length answers) && same (take a.used a.room) answers))
holds (screened s b n ts size size' r pages next counts) =
    let a : Screening = screen s b n ts (replicate size 7) (replicate size' 7) in
    same_refusal a.refusal r
    && (eqb a.found (length pages)
    && (eqb a.full (cond (ltb 0 next) 1 0)
    && (eqb a.next next
    && (same a.pages (laid pages (replicate size 7)) && same a.counts (laid counts (replicate size' 7))))))
holds (shown s qs text) = same (printed s qs) text

unfoldable pub every : List Row → Bool
every [] = true
every (r ∷ rs) = holds r && every rs

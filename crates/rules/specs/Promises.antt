-- What each call promises, by name: its contract cites the predicate, and proofs/Unique.antt shows of the same
-- predicate that it allows one result [01 Promises with no slack].
--
--   Determined P                    any two results that P allows are equal
--   ListChecked s r                 r is the refusal of the bytes s as a list
--   ListWritten U xs room r after   r answers writing the list xs below U, and leaves the room as `after`
--   TermChecked v s r               r is the refusal of the bytes s as a term of an index of version v
--   TermWritten v N t room r after  r answers writing the word t of N pages for an index of version v, and leaves the
--                                   room as `after`
--   TermBegun v N P Q U room r after  r answers the announcement of a word, and leaves the room as `after`
--   PostingsPut s t room r after    r answers the postings t that session s is handed, and leaves the room as `after`
--   TermEnded s room r after        r answers the close of session s, and leaves the room as `after`
--   IndexChecked s r                r is the refusal of the bytes s as an index
--   IndexClosed buffer used v N T r after  r answers closing an index, and leaves the buffer as `after`
--   Answered s qs room r after      r is the outcome of the questions qs on the card s, and leaves the room as `after`
--   ScreenShown s b n ts pages counts r pages' counts'  r answers a screen of n pages of the words ts from b on of the
--                                   card s, and leaves the rooms as `pages'` and `counts'`
--   Printed s qs text r after       r is the length of what the program prints for two files, laid into the text
use Rattle.std.specs.Prelude.{◌≡◌, List, ℕ, length, Result}
use Rattle.rules.specs.declared.Refusal.{Refusal}
use Rattle.rules.specs.Verdict.{Verdict}
use Rattle.rules.specs.declared.Outcome.{Outcome}
use Rattle.rules.specs.declared.Screened.{Screened}
use Rattle.rules.specs.declared.Stream.{Stream}
use Rattle.rules.specs.declared.Streamed.{Streamed}
use Rattle.rules.specs.ReadList.{list_refusal}
use Rattle.rules.specs.Write.{made, laid, write_list}
use Rattle.rules.specs.Term.{Word, write_term}
use Rattle.rules.specs.Stream.{streaming, begin_term, put_postings, end_term}
use Rattle.rules.specs.ReadTerm.{term_refusal}
use Rattle.rules.specs.Index.{index_refusal, close_index}
use Rattle.rules.specs.Ask.{asked, ask}
use Rattle.rules.specs.Screen.{screening, screen}
use Rattle.rules.specs.Program.{printed}

abbrev pub Determined : {A : Type 0} → (A → Type 0) → Type 0
Determined P = (p q : _) → P p → P q → p ≡ q

abbrev pub ListChecked : List ℕ → Verdict → Type 0
ListChecked s r = r ≡ list_refusal s

abbrev pub ListWritten : ℕ → List ℕ → List ℕ → Result ℕ Refusal → List ℕ → Type 0
ListWritten U xs room r after = made r after ≡ write_list U xs room

abbrev pub TermChecked : ℕ → List ℕ → Verdict → Type 0
TermChecked v s r = r ≡ term_refusal v s

abbrev pub TermWritten : ℕ → ℕ → Word → List ℕ → Result ℕ Refusal → List ℕ → Type 0
TermWritten v N t room r after = made r after ≡ write_term v N t room

abbrev pub TermBegun : ℕ → ℕ → ℕ → ℕ → ℕ → List ℕ → Streamed → List ℕ → Type 0
TermBegun v N P Q U room r after = streaming r after ≡ begin_term v N P Q U room

abbrev pub PostingsPut : Stream → Word → List ℕ → Streamed → List ℕ → Type 0
PostingsPut s t room r after = streaming r after ≡ put_postings s t room

abbrev pub TermEnded : Stream → List ℕ → Streamed → List ℕ → Type 0
TermEnded s room r after = streaming r after ≡ end_term s room

abbrev pub IndexChecked : List ℕ → Verdict → Type 0
IndexChecked s r = r ≡ index_refusal s

abbrev pub IndexClosed : List ℕ → ℕ → ℕ → ℕ → ℕ → Result ℕ Refusal → List ℕ → Type 0
IndexClosed buffer used v N T r after = made r after ≡ close_index buffer used v N T

abbrev pub Answered : List ℕ → List ℕ → List ℕ → Outcome → List ℕ → Type 0
Answered s qs room r after = asked r after ≡ ask s qs room

abbrev pub ScreenShown : List ℕ → ℕ → ℕ → List ℕ → List ℕ → List ℕ → Result Screened Refusal → List ℕ → List ℕ → Type 0
ScreenShown s b n ts pages counts r pages' counts' = screening r pages' counts' ≡ screen s b n ts pages counts

abbrev pub Printed : List ℕ → List ℕ → List ℕ → ℕ → List ℕ → Type 0
Printed s qs text r after = (after ≡ laid (printed s qs) text) × (r ≡ length (printed s qs))

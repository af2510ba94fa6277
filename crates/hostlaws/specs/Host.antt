-- What each exported call promises, by name; its contract cites the predicate [01 Promises with no slack].
--
--   HostListChecked s r                 jf_check_list answers r to the bytes s
--   HostListWritten U xs room r after   jf_write_list answers r, and leaves the room as `after`
--   HostTermChecked v s r               jf_check_term, for an index of version v [02 f]
--   HostTermWritten v N t room r after  jf_write_term, of the word t for such an index
--   HostTermBegun v N P Q U room r after  jf_begin_term, of P pages and Q positions whose elements end at U for such an
--                                       index
--   HostPostingsPut s t room r after    jf_put_postings, of the postings t that session s is handed
--   HostTermEnded s room r after        jf_end_term, of session s
--   HostIndexChecked s r                jf_check_index
--   HostIndexClosed buffer used v N T r after  jf_close_index
--   HostAnswered s qs room r after      jf_ask, with the questions qs on the card s
--   HostScreenShown s b n ts pages counts r pages' counts'  jf_screen, of n pages of the words ts from b on of the card
--                                       s
use Rattle.std.specs.Prelude.{◌≡◌, List, ℕ}
use Rattle.rules.specs.declared.Stream.{Stream}
use Rattle.rules.specs.Refusal.{number}
use Rattle.rules.specs.ReadList.{list_refusal}
use Rattle.rules.specs.Write.{write_list}
use Rattle.rules.specs.Term.{Word, write_term}
use Rattle.rules.specs.Stream.{begin_term, put_postings, end_term}
use Rattle.rules.specs.ReadTerm.{term_refusal}
use Rattle.rules.specs.Index.{index_refusal, close_index}
use Rattle.rules.specs.Ask.{ask}
use Rattle.rules.specs.Screen.{screen}
use Rattle.telling.specs.declared.HostWritten.{HostWritten}
use Rattle.telling.specs.declared.HostStreamed.{HostStreamed}
use Rattle.telling.specs.declared.HostAsked.{HostAsked}
use Rattle.telling.specs.declared.HostScreened.{HostScreened}
use Rattle.telling.specs.Told.{told, told_of, told_stream, told_stream_of, heard, heard_of, seen, seen_of}

abbrev pub HostListChecked : List ℕ → ℕ → Type 0
HostListChecked s r = r ≡ number (list_refusal s)

abbrev pub HostListWritten : ℕ → List ℕ → List ℕ → HostWritten → List ℕ → Type 0
HostListWritten U xs room r after = told_of r after ≡ told (write_list U xs room)

abbrev pub HostTermChecked : ℕ → List ℕ → ℕ → Type 0
HostTermChecked v s r = r ≡ number (term_refusal v s)

abbrev pub HostTermWritten : ℕ → ℕ → Word → List ℕ → HostWritten → List ℕ → Type 0
HostTermWritten v N t room r after = told_of r after ≡ told (write_term v N t room)

abbrev pub HostTermBegun : ℕ → ℕ → ℕ → ℕ → ℕ → List ℕ → HostStreamed → List ℕ → Type 0
HostTermBegun v N P Q U room r after = told_stream_of r after ≡ told_stream (begin_term v N P Q U room)

abbrev pub HostPostingsPut : Stream → Word → List ℕ → HostStreamed → List ℕ → Type 0
HostPostingsPut s t room r after = told_stream_of r after ≡ told_stream (put_postings s t room)

abbrev pub HostTermEnded : Stream → List ℕ → HostStreamed → List ℕ → Type 0
HostTermEnded s room r after = told_stream_of r after ≡ told_stream (end_term s room)

abbrev pub HostIndexChecked : List ℕ → ℕ → Type 0
HostIndexChecked s r = r ≡ number (index_refusal s)

abbrev pub HostIndexClosed : List ℕ → ℕ → ℕ → ℕ → ℕ → HostWritten → List ℕ → Type 0
HostIndexClosed buffer used v N T r after = told_of r after ≡ told (close_index buffer used v N T)

abbrev pub HostAnswered : List ℕ → List ℕ → List ℕ → HostAsked → List ℕ → Type 0
HostAnswered s qs room r after = heard_of r after ≡ heard (ask s qs room)

abbrev pub HostScreenShown : List ℕ → ℕ → ℕ → List ℕ → List ℕ → List ℕ → HostScreened → List ℕ → List ℕ → Type 0
HostScreenShown s b n ts pages counts r pages' counts' =
    seen_of r pages' counts' ≡ seen (screen s b n ts pages counts)

-- What can be wrong with an announcement, with postings and with a close, each in request c's words, and the number
-- that a session's calls then give [02 c].
--
-- The announcement, for an index of version v, of P pages below N and Q positions whose elements end at U:
--   NOrUOver N U      4: "N or U over"
--   AnnouncedWrong N P Q U  10: "more pages than N or than positions, more positions than U, positions but no pages, U
--                     not 0 without positions"
--   announcing v N P Q U room  "4 .., 10 .., 9, in this order", and 3 before them for an unknown version [02 f]
--
-- A later call on session s:
--   NotLive s         the session does not go on: it has ended, or it is none that a call hands back, since what was
--                     announced is wrong or more is laid than was announced
--   ShortRoom s room  9: "a later room shorter than the block"
--   later bad s room  10 for a session that does not go on, 9, and 10 where `bad` holds
--   On s room         the session goes on, and the room holds its block
--   cleared s room    the room with the session's block all zero
--   Answers bad s room r after  the result r of a call on session s, `bad` being what can be wrong with what it is
--                     given: which number when, and what the call then leaves
--   Below s t         the postings t begin below the least page that may follow
--   BadRun s t        10: the postings t are bad by themselves, begin too low or go past what was announced
--   WrongTotals s     10: "totals wrong at the close"
--
-- The same of the word that all runs so far are together:
--   BadWord N t       "the whole-list 10", of the word t
--   Past P Q U t      it goes "past the announcement"
--   OtherTotals P Q U t  it is not all that was announced
use Rattle.std.specs.Prelude.{◌↔◌, ◌⊎◌, ◌≡◌, List, [], ◌∷◌, ℕ, ◌+◌, ◌≤◌, ◌<◌, length, get_or, replicate}
use Rattle.rules.specs.Verdict.{Version, Limit, Room, Lists}
use Rattle.rules.specs.declared.Stream.{Stream}
use Rattle.rules.specs.Limits.{limit, last_edition}
use Rattle.rules.specs.Term.{Word, next, placed, places}
use Rattle.rules.specs.Write.{laid}
use Rattle.rules.specs.Stream.{stream_size, size_of, over}
use Rattle.telling.specs.declared.HostStreamed.{HostStreamed}
use Rattle.demands.specs.Faults.{Unknown, Over, OutOfOrder, NotBelow, LengthsDisagree, ZeroCount, OtherSum}
use Rattle.demands.specs.Faults.{PlacesDisorder}
use Rattle.demands.specs.Sentences.{Sentence, ◌when◌, First}
use Rattle.demands.specs.Streams.{Leaves}

-- ---- the announcement

abbrev pub NOrUOver : ℕ → ℕ → Type 0
NOrUOver N U = Over limit N ⊎ Over limit U

abbrev pub AnnouncedWrong : ℕ → ℕ → ℕ → ℕ → Type 0
AnnouncedWrong N P Q U =
    (N < P) ⊎ ((Q < P) ⊎ ((U < Q) ⊎ (((P ≡ 0) × (0 < Q)) ⊎ ((Q ≡ 0) × (0 < U)))))

abbrev pub announcing : ℕ → ℕ → ℕ → ℕ → ℕ → List ℕ → List Sentence
announcing v N P Q U room =
    Version when Unknown last_edition v
    ∷ Limit when NOrUOver N U
    ∷ Lists when AnnouncedWrong N P Q U
    ∷ Room when (length room < stream_size v N P Q U)
    ∷ []

-- ---- a word

abbrev pub BadWord : ℕ → Word → Type 0
BadWord N t =
    LengthsDisagree t
    ⊎ (OutOfOrder t.pages ⊎ (NotBelow N t.pages ⊎ (ZeroCount t ⊎ (OtherSum t ⊎ PlacesDisorder t))))

abbrev pub Past : ℕ → ℕ → ℕ → Word → Type 0
Past P Q U t = (P < length t.pages) ⊎ ((Q < length t.positions) ⊎ (U < next 0 (places t)))

abbrev pub OtherTotals : ℕ → ℕ → ℕ → Word → Type 0
OtherTotals P Q U t =
    (length t.pages ≡ P → ⊥) ⊎ ((length t.positions ≡ Q → ⊥) ⊎ (next 0 (places t) ≡ U → ⊥))

-- ---- a later call

abbrev pub NotLive : Stream → Type 0
NotLive s =
    (s.mark ≡ 1 → ⊥)
    ⊎ ((Unknown last_edition s.version
    ⊎ (NOrUOver s.n s.u ⊎ AnnouncedWrong s.n s.pages s.positions s.u))
    ⊎ ((s.pages < s.laid) ⊎ (s.positions < s.filled)))

abbrev pub ShortRoom : Stream → List ℕ → Type 0
ShortRoom s room = length room < size_of s

abbrev pub later : Type 0 → Stream → List ℕ → List Sentence
later bad s room = Lists when NotLive s ∷ Room when ShortRoom s room ∷ Lists when bad ∷ []

abbrev pub On : Stream → List ℕ → Type 0
On s room = (NotLive s → ⊥) × (size_of s ≤ length room)

abbrev pub cleared : Stream → List ℕ → List ℕ
cleared s room = laid (replicate (size_of s) 0) room

pub record Answers (bad : Type 0) (s : Stream) (room : List ℕ) (r : HostStreamed) (after : List ℕ) : Type 0 where
  pub first : First r.refusal (later bad s room)
  -- "every call is 10, room unchanged"
  pub ended : NotLive s → (r.refusal ≡ 10) × Leaves r after over room
  -- "9 before postings are read, room unchanged, and the session goes on"
  pub short : (r.refusal ≡ 9) ↔ ((NotLive s → ⊥) × ShortRoom s room)
  pub keeps : r.refusal ≡ 9 → Leaves r after s room
  -- "10 and the block's room is then all zero"
  pub wrong : On s room → (r.refusal ≡ 10) ↔ bad
  pub spoils : On s room → r.refusal ≡ 10 → Leaves r after over (cleared s room)
  pub passed : (r.refusal ≡ 0) ↔ (On s room × (bad → ⊥))

abbrev pub Below : Stream → Word → Type 0
Below s t = (0 < length t.pages) × (get_or t.pages 0 0 < s.page)

abbrev pub BadRun : Stream → Word → Type 0
BadRun s t =
    BadWord s.n t
    ⊎ (Below s t
    ⊎ ((s.pages < s.laid + length t.pages)
    ⊎ ((s.positions < s.filled + length t.positions)
    ⊎ (s.u < next s.base (placed s.base t.counts t.positions)))))

abbrev pub WrongTotals : Stream → Type 0
WrongTotals s = (s.laid ≡ s.pages → ⊥) ⊎ ((s.filled ≡ s.positions → ⊥) ⊎ (s.base ≡ s.u → ⊥))

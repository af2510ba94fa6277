-- The premises of StreamSentences.antt and StreamRefusals.antt can be met: every input has a result that the promise
-- allows, and a word of two pages, handed over in two runs, and faulty ones meet the others, by computation.
use mathlib.Core.Path.{◌≡◌, refl}
use mathlib.Core.List.{List, [], ◌∷◌}
use Prim.Native.Nat.{ℕ}
use lib.ListN.{length, replicate}
use Rattle.rules.specs.declared.Stream.{Stream}
use Rattle.rules.specs.Refusal.{number, accepted}
use Rattle.rules.specs.Limits.{up_to}
use Rattle.rules.specs.Bytes.{be, be_at, sized}
use Rattle.rules.specs.Runs.{bit, words_for, words}
use Rattle.rules.specs.List.{rising, greatest, width, zeros, upper, lower, after_zero, pointer}
use Rattle.rules.specs.List.{fours, lower_at, upper_at, size, runs, body, block, dense, form_of}
use Rattle.rules.specs.Write.{laid, stored}
use Rattle.rules.specs.Term.{Word, lent_word, total, sums, next, raised, placed, places, positive, in_order}
use Rattle.rules.specs.Term.{in_order_by_page, valid_word, term_block, write_term}
use Rattle.rules.specs.InPlace.{emptied, from, with_ones, number_of, added, pointed}
use Rattle.rules.specs.Stream.{announce_refusal, counts_at, positions_at, stream_size, announced, opened, over, live}
use Rattle.rules.specs.Stream.{added_word, follows, advanced, complete, size_of, spoilt, begin_term, going, put_postings}
use Rattle.rules.specs.Stream.{pointed_word, end_term, put_all, together, stream_form, second_at, third_at, Streaming}
use Rattle.rules.specs.Table.{posting}
use Rattle.streamlaws.specs.Underway.{Cut}
use Rattle.telling.specs.declared.HostStreamed.{HostStreamed}
use Rattle.hostlaws.specs.Host.{HostTermWritten, HostTermBegun, HostPostingsPut, HostTermEnded}
use Rattle.demands.specs.Streams.{Led}

-- ---- the promises, for every input

abbrev answer : Streaming → HostStreamed
answer m = record { refusal = number m.refusal; length = m.size; stream = m.stream }

pub term_begun_met : (v N P Q U : ℕ) (room : List ℕ)
    → (r : HostStreamed) × (after : List ℕ) × HostTermBegun v N P Q U room r after
term_begun_met v N P Q U room = (answer (begin_term v N P Q U room), (begin_term v N P Q U room).room, refl)

pub postings_put_met : (s : Stream) (t : Word) (room : List ℕ)
    → (r : HostStreamed) × (after : List ℕ) × HostPostingsPut s t room r after
postings_put_met s t room = (answer (put_postings s t room), (put_postings s t room).room, refl)

pub term_ended_met : (s : Stream) (room : List ℕ)
    → (r : HostStreamed) × (after : List ℕ) × HostTermEnded s room r after
term_ended_met s room = (answer (end_term s room), (end_term s room).room, refl)

-- ---- a word on pages 4 and 15 of 44, a run for each page; its block has 76 bytes, and the room 4 more

abbrev cut : List Word
cut = posting 4 0 ∷ (posting 15 0 ∷ [])

abbrev room : List ℕ
room = replicate 80 7

abbrev begun : Streaming
begun = begin_term 1 44 2 2 2 room

abbrev laid_two : Streaming
laid_two = put_all cut begun

pub led_met : Led 1 44 2 2 2 room cut laid_two.stream laid_two.room
unfolding up_to dense form_of stream_form second_at third_at accepted be be_at sized bit words_for words rising greatest width
    zeros upper lower lower_at upper_at size laid total sums next raised placed positive in_order in_order_by_page valid_word
    emptied from with_ones added announce_refusal counts_at positions_at stream_size announced opened live added_word follows
    advanced size_of spoilt begin_term going put_postings put_all
led_met =
    let one : Streaming = put_postings begun.stream (posting 4 0) begun.room in (
      answer begun,
      begun.room,
      refl,
      refl,
      (answer one, one.room, refl, refl, (answer laid_two, laid_two.room, refl, refl, (refl, refl))),
    )

-- its close finishes, and jf_write_term accepts the word
pub closed_met : HostTermEnded laid_two.stream laid_two.room (record { refusal = 0; length = 76; stream = over })
    (laid (term_block 1 44 (together cut)) room)
unfolding up_to dense form_of stream_form second_at third_at accepted be be_at sized bit words_for words rising greatest width
    zeros upper lower lower_at upper_at size laid total sums next raised placed positive in_order in_order_by_page valid_word
    emptied from with_ones added announce_refusal counts_at positions_at stream_size announced opened live added_word follows
    advanced size_of spoilt begin_term going put_postings put_all complete pointed_word pointed number_of end_term after_zero
    pointer fours runs body block term_block together places
closed_met = refl

pub whole_met : HostTermWritten 1 44 (together cut) room (record { refusal = 0; length = 76 })
    (laid (term_block 1 44 (together cut)) room)
unfolding up_to form_of write_term valid_word rising positive total in_order in_order_by_page next places placed raised stored
    term_block sums sized be block body runs fours pointer after_zero bit words words_for upper lower zeros width greatest
    together laid
whole_met = refl

-- the runs are cut at page boundaries, and what is announced is the word's
pub cut_met : Cut cut
    × (2 ≡ length (together cut).pages)
    × (2 ≡ length (together cut).positions)
    × (2 ≡ next 0 (places (together cut)))
unfolding Cut together total next places placed raised
cut_met = ((refl, refl, (refl, refl, tt)), refl, refl, refl)

-- ---- numbers of refusal

-- a refusal r that leaves session s
abbrev refuses : ℕ → Stream → HostStreamed
refuses r s = record { refusal = r; length = 0; stream = s }

-- 3 for an unknown version, 4 by N and by U, each case of 10, and 9
pub begin_numbers_met : HostTermBegun 3 16777217 0 0 0 [] (refuses 3 over) []
    × HostTermBegun 1 16777217 0 0 0 [] (refuses 4 over) []
    × HostTermBegun 1 44 0 0 16777217 [] (refuses 4 over) []
    × HostTermBegun 1 1 2 2 2 [] (refuses 10 over) []
    × HostTermBegun 1 44 2 1 2 [] (refuses 10 over) []
    × HostTermBegun 1 44 2 2 1 [] (refuses 10 over) []
    × HostTermBegun 1 44 0 2 2 [] (refuses 10 over) []
    × HostTermBegun 1 44 0 0 2 [] (refuses 10 over) []
    × HostTermBegun 1 44 2 2 2 (replicate 75 7) (refuses 9 over) (replicate 75 7)
unfolding up_to form_of begin_term announce_refusal accepted stream_size positions_at counts_at size upper_at lower_at words_for
    zeros width greatest over
begin_numbers_met = (refl, refl, refl, refl, refl, refl, refl, refl, refl)

-- a session behind page 4, and what it answers to bad postings
abbrev behind : Stream
behind = record {
  mark = 1;
  version = 1;
  n = 44;
  pages = 2;
  positions = 2;
  u = 2;
  laid = 1;
  filled = 1;
  page = 5;
  base = 1;
}

abbrev Bad : List ℕ → List ℕ → List ℕ → Type 0
Bad pages counts positions =
    HostPostingsPut behind (lent_word pages counts positions) room (refuses 10 over) (laid (replicate 76 0) room)

-- each case of a bad run: by itself, too low, and past each number that was announced
pub bad_numbers_met : Bad (15 ∷ []) [] []
    × Bad (15 ∷ (15 ∷ [])) (1 ∷ (1 ∷ [])) (0 ∷ (0 ∷ []))
    × Bad (44 ∷ []) (1 ∷ []) (0 ∷ [])
    × Bad (15 ∷ []) (0 ∷ []) []
    × Bad (15 ∷ []) (1 ∷ []) []
    × Bad (15 ∷ []) (2 ∷ []) (0 ∷ (0 ∷ []))
    × Bad (4 ∷ []) (1 ∷ []) (0 ∷ [])
    × Bad (15 ∷ (16 ∷ [])) (1 ∷ (1 ∷ [])) (0 ∷ (0 ∷ []))
    × Bad (15 ∷ []) (2 ∷ []) (0 ∷ (1 ∷ []))
    × Bad (15 ∷ []) (1 ∷ []) (1 ∷ [])
unfolding up_to form_of put_postings going live accepted announce_refusal size_of stream_size positions_at counts_at size
    upper_at lower_at words_for zeros width greatest follows valid_word rising total positive in_order in_order_by_page next
    placed raised spoilt laid over
bad_numbers_met = (refl, refl, refl, refl, refl, refl, refl, refl, refl, refl)

-- 10 for a session that has ended, 9 for a short room, and 10 for totals that fall short
pub later_numbers_met : HostPostingsPut over (posting 15 0) [] (refuses 10 over) []
    × HostTermEnded over [] (refuses 10 over) []
    × HostPostingsPut behind (posting 4 0) (replicate 75 7) (refuses 9 behind) (replicate 75 7)
    × HostTermEnded behind (replicate 75 7) (refuses 9 behind) (replicate 75 7)
    × HostTermEnded behind room (refuses 10 over) (laid (replicate 76 0) room)
unfolding up_to form_of put_postings end_term going live accepted announce_refusal size_of stream_size positions_at counts_at
    size upper_at lower_at words_for zeros width greatest complete spoilt laid over
later_numbers_met = (refl, refl, refl, refl, refl)

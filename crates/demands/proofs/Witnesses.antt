-- The premises of Demands.antt and Refusals.antt can be met: every input has a result that the promise allows, and
-- S9's card, its question and small rooms meet the others, by computation.
use mathlib.Core.Bool.{true, false}
use mathlib.Core.Path.{◌≡◌, refl}
use mathlib.Core.List.{List, [], ◌∷◌}
use Prim.Native.Nat.{ℕ, zero, suc, ◌+◌}
use native.Mathlib.Omega.{arith}
use borrow.Author.Tests.{ltb-true}
use lib.Dec.{ltb}
use lib.ListN.{length, get_or, replicate}
use Rattle.rules.specs.Refusal.{number, accepted, and_then}
use Rattle.rules.specs.Limits.{offset_limit, up_to}
use Rattle.rules.specs.Bytes.{Bytes, be, be_at, sized, same}
use Rattle.rules.specs.Runs.{bit, run_word, run_bit, field, words_for, words}
use Rattle.rules.specs.List.{rising, valid_list, greatest, width, zeros, upper, lower, after_zero, pointer}
use Rattle.rules.specs.List.{fours, lower_at, upper_at, size, runs, body, block, two_runs, dense, form_of}
use Rattle.rules.specs.ReadList.{stated, list_u, list_n, elements, read_list, form_at, decode, is_block, refusal_in}
use Rattle.rules.specs.ReadList.{list_refusal, part_refusal}
use Rattle.rules.specs.Write.{laid, stored, write_list}
use Rattle.rules.specs.Term.{Word, total, sums, next, raised, placed, places, positive, in_order, in_order_by_page}
use Rattle.rules.specs.Term.{valid_word, term_block, write_term}
use Rattle.rules.specs.Parts.{after, part, inside}
use Rattle.rules.specs.ReadTerm.{lists_of, pages_of, counts_of, positions_of, gaps, less, lowered, read_word, disagree}
use Rattle.rules.specs.ReadTerm.{term_refusal}
use Rattle.rules.specs.Index.{index_front, terms, card, valid_words, valid_card, index_v, index_n, index_t, term_part, word_of}
use Rattle.rules.specs.Index.{terms_refusal, index_refusal, close_refusal, close_index}
use Rattle.rules.specs.Seek.{place_of, bits_of, cursor_bit, start_of, looks_to, walk, gone, arrived, walked, walk_from, move}
use Rattle.rules.specs.Seek.{fresh, rank_of, seek}
use Rattle.rules.specs.Common.{lead_from, lead_of, reader, readers_of, seek_by, moved_by, before, stopped, agree, counted}
use Rattle.rules.specs.Common.{nothing, rounds}
use Rattle.rules.specs.Common.{lead_pages, other_pages, common_from, common}
use Rattle.rules.specs.Plain.{first_from, below, member, in_all, shared_by, common_pages, positions_among, positions_on}
use Rattle.rules.specs.Plain.{phrase_of, stands, starts_among, starts, with_starts}
use Rattle.rules.specs.Questions.{numbered, pages_in, lists_in, words_in, by_rank, by_bound, by_common, by_phrase, terms_of}
use Rattle.rules.specs.Questions.{offsets_of, phrase_in, answer, all_below, words_good, offsets_good, phrase_good}
use Rattle.rules.specs.Questions.{good_question, kind_of, count_of, args_of, behind, well_formed, replies}
use Rattle.rules.specs.Ask.{fitting, fitted, reply, joined, put, ask}
use Rattle.rules.specs.Table.{s1_list, s9, s9_word}
use Rattle.seeklaws.specs.Cursors.{answers, never_down, ranks, belows}
use Rattle.listlaws.proofs.RisingLaws.{and_parts}
use Rattle.telling.specs.declared.HostWritten.{HostWritten}
use Rattle.telling.specs.declared.HostAsked.{HostAsked}
use Rattle.hostlaws.specs.Host.{HostListChecked, HostListWritten, HostTermChecked, HostTermWritten, HostIndexChecked}
use Rattle.hostlaws.specs.Host.{HostIndexClosed, HostAnswered}
use Rattle.demands.specs.Asking.{Known, ValidWord, Query, Good, named, pages_named, plain, plain_all}

-- ---- the promises, for every input

pub list_checked_met : (s : List ℕ) → (r : ℕ) × HostListChecked s r
list_checked_met s = (number (list_refusal s), refl)

pub term_checked_met : (v : ℕ) (s : List ℕ) → (r : ℕ) × HostTermChecked v s r
term_checked_met v s = (number (term_refusal v s), refl)

pub index_checked_met : (s : List ℕ) → (r : ℕ) × HostIndexChecked s r
index_checked_met s = (number (index_refusal s), refl)

pub list_written_met : (U : ℕ) (xs room : List ℕ)
    → (r : HostWritten) × (after : List ℕ) × HostListWritten U xs room r after
list_written_met U xs room =
    let m = write_list U xs room in
    (record { refusal = number m.refusal; length = m.size }, m.room, refl)

pub term_written_met : (v N : ℕ) (t : Word) (room : List ℕ)
    → (r : HostWritten) × (after : List ℕ) × HostTermWritten v N t room r after
term_written_met v N t room =
    let m = write_term v N t room in
    (record { refusal = number m.refusal; length = m.size }, m.room, refl)

pub index_closed_met : (buffer : List ℕ) (used v N T : ℕ)
    → (r : HostWritten) × (after : List ℕ) × HostIndexClosed buffer used v N T r after
index_closed_met buffer used v N T =
    let m = close_index buffer used v N T in
    (record { refusal = number m.refusal; length = m.size }, m.room, refl)

pub answered_met : (s qs room : List ℕ) → (r : HostAsked) × (after : List ℕ) × HostAnswered s qs room r after
answered_met s qs room =
    let a = ask s qs room in
    (record { refusal = number a.refusal; answered = a.answered; used = a.used }, a.room, refl)

-- ---- a version, a valid list, word and card

pub known_met : Known 1 × Known 2
known_met = ((omega arith, omega arith), (omega arith, omega arith))

pub list_met : valid_list 3 (1 ∷ []) ≡ true
unfolding valid_list rising
list_met = refl

pub word_met : ValidWord 3 s9_word
unfolding valid_word rising positive total in_order in_order_by_page next places placed raised s9_word
word_met = (refl, omega arith, omega arith)

pub card_met : (valid_card 1 3 (s9_word ∷ []) ≡ true) × (valid_card 2 3 (s9_word ∷ []) ≡ true)
unfolding valid_card up_to form_of dense valid_words valid_word rising positive total in_order in_order_by_page next places
    placed raised s9_word terms term_block sums sized be block body runs fours pointer after_zero bit words words_for upper
    lower zeros width greatest
card_met = (refl, refl)

-- numbers that are all below 256 are bytes
below_bytes : (s : List ℕ) → all_below 256 s ≡ true → Bytes s
unfolding all_below
below_bytes [] b i = omega arith
below_bytes (x ∷ s) b zero = ltb-true x 256 (and_parts (ltb x 256) (all_below 256 s) b).0
below_bytes (x ∷ s) b (suc i) = below_bytes s (and_parts (ltb x 256) (all_below 256 s) b).1 i

pub bytes_met : Bytes s9
unfolding s9 be all_below
bytes_met = below_bytes s9 refl

-- ---- S9's card and its questions

pub s9_card : s9 ≡ card 1 3 (s9_word ∷ [])
unfolding form_of s9 s9_word card index_front terms term_block sums sized be block body runs fours pointer after_zero bit
    words words_for upper lower zeros width greatest next places placed raised total
s9_card = refl

-- one to eight numbers of words
pub terms_met : all_below (length (s9_word ∷ [])) (0 ∷ []) ≡ true
unfolding all_below
terms_met = refl

-- offsets of one to eight pairs
pub offsets_met : (◌≡◌ {A = ℕ} (get_or (0 ∷ (2 ∷ [])) 0 0) 0) × (rising 0 (offset_limit + 1) (0 ∷ (2 ∷ [])) ≡ true)
unfolding rising
offsets_met = (refl, refl)

-- a run of two questions, of kinds 3 and 4, and the room that its answers take
abbrev run : List Query
run = record { kind = 3; numbers = 0 ∷ [] } ∷ (record { kind = 4; numbers = 0 ∷ (0 ∷ (0 ∷ (2 ∷ []))) } ∷ [])

pub run_met : Good 1 run
unfolding good_question phrase_good offsets_good words_good all_below terms_of offsets_of rising
run_met = (refl, (refl, tt))

pub run_fits_met : length (joined (plain_all 1 3 (s9_word ∷ []) run)) ≡ 7
unfolding joined plain_all plain by_common by_phrase numbered named pages_named terms_of offsets_of phrase_of s9_word
    common_pages shared_by in_all with_starts starts starts_among stands positions_on positions_among member
run_fits_met = refl

-- what a run that answers so many questions reports
abbrev reports : ℕ → ℕ → ℕ → HostAsked
reports refusal answered used = record { refusal = refusal; answered = answered; used = used }

-- S9's question answers 3 2 2 1 into a room of four numbers; with one number fewer it is 9, and of a word that is not
-- there 8; its word stands once two behind itself, and may not be asked for at the start twice
pub asked_met : HostAnswered s9 (3 ∷ (1 ∷ (0 ∷ []))) (replicate 4 0) (reports 0 1 4) (3 ∷ (2 ∷ (2 ∷ (1 ∷ []))))
    × HostAnswered s9 (3 ∷ (1 ∷ (0 ∷ []))) (replicate 3 0) (reports 9 0 0) (replicate 3 0)
    × HostAnswered s9 (3 ∷ (1 ∷ (1 ∷ []))) (replicate 3 0) (reports 8 0 0) (replicate 3 0)
    × HostAnswered s9 (4 ∷ (4 ∷ (0 ∷ (0 ∷ (0 ∷ (2 ∷ [])))))) (replicate 3 0) (reports 0 1 3) (2 ∷ (1 ∷ (1 ∷ [])))
    × HostAnswered s9 (4 ∷ (4 ∷ (0 ∷ (0 ∷ (0 ∷ (0 ∷ [])))))) (replicate 3 0) (reports 8 0 0) (replicate 3 0)
unfolding up_to dense form_of form_at refusal_in part_refusal index_v reader seek_by moved_by accepted and_then be be_at sized
    same bit run_word run_bit field words_for words rising valid_list greatest width zeros upper lower after_zero pointer
    fours lower_at upper_at size runs body block stated list_u list_n elements read_list decode is_block list_refusal laid
    total sums next raised placed places positive in_order in_order_by_page valid_word term_block after part inside lists_of
    pages_of counts_of positions_of gaps less lowered read_word disagree term_refusal index_front terms card valid_words
    valid_card index_n index_t term_part word_of terms_refusal index_refusal place_of bits_of cursor_bit start_of looks_to walk gone
    arrived walked walk_from move seek lead_from lead_of readers_of before stopped agree counted nothing rounds lead_pages
    other_pages common_from common first_from member in_all shared_by common_pages positions_among positions_on phrase_of stands
    starts_among starts with_starts numbered pages_in lists_in words_in by_rank by_bound by_common by_phrase terms_of offsets_of
    phrase_in answer all_below words_good offsets_good phrase_good good_question kind_of count_of args_of behind well_formed
    replies fitting fitted reply joined put ask s9
asked_met = (refl, refl, refl, refl, refl)

-- a bound that goes down: the cursor stays on its page and says that page's rank, 7, where two pages lie below
pub lower_met : (ranks (answers two_runs 44 s1_list fresh (43 ∷ (5 ∷ []))) ≡ 7 ∷ (7 ∷ []))
    × (belows s1_list (43 ∷ (5 ∷ [])) ≡ 7 ∷ (2 ∷ []))
    × (never_down 0 (43 ∷ (5 ∷ [])) ≡ false)
unfolding ranks rank_of answers belows below never_down s1_list seek move walk_from walked walk arrived start_of cursor_bit
    place_of bits_of looks_to pointer after_zero upper zeros width greatest bit
lower_met = (refl, refl, refl)

-- ---- writing and closing, done and refused

pub list_done_met : HostListWritten 5 [] (replicate 13 0) (record { refusal = 0; length = 13 }) (block 5 [])
unfolding write_list rising stored laid block sized body be
list_done_met = refl

pub list_refused_met : HostListWritten 5 (5 ∷ []) [] (record { refusal = 10; length = 0 }) []
unfolding write_list rising
list_refused_met = refl

pub close_done_met : HostIndexClosed s9 95 1 3 1 (record { refusal = 0; length = 95 }) s9
unfolding up_to dense form_of form_at refusal_in part_refusal close_index close_refusal s9 accepted and_then be be_at bit run_word
    run_bit field words_for words sized rising greatest width zeros upper lower after_zero pointer fours lower_at upper_at
    size runs body block same stated list_u list_n elements read_list decode is_block list_refusal laid next after part
    inside lists_of pages_of counts_of positions_of disagree term_refusal index_front terms_refusal
close_done_met = refl

-- ---- a word named twice

pub again_met : (t : ℕ) → t ∷ (t ∷ []) ≡ replicate 2 t
again_met t = refl

-- ---- numbers that the writer of a term, closing and a run of questions give

abbrev refuses : ℕ → HostWritten
refuses n = record { refusal = n; length = 0 }

abbrev word : List ℕ → List ℕ → List ℕ → Word
word pages counts positions = record { pages = pages; counts = counts; positions = positions }

-- 3 for an unknown version, 4, each case of 10, 4 again and 9
pub term_numbers_met : HostTermWritten 0 16777217 (word [] [] []) [] (refuses 3) []
    × HostTermWritten 3 16777217 (word [] [] []) [] (refuses 3) []
    × HostTermWritten 1 16777217 (word [] [] []) [] (refuses 4) []
    × HostTermWritten 1 3 (word (1 ∷ []) [] []) [] (refuses 10) []
    × HostTermWritten 1 3 (word (1 ∷ (1 ∷ [])) (1 ∷ (1 ∷ [])) (0 ∷ (0 ∷ []))) [] (refuses 10) []
    × HostTermWritten 1 3 (word (3 ∷ []) (1 ∷ []) (0 ∷ [])) [] (refuses 10) []
    × HostTermWritten 1 3 (word (1 ∷ []) (0 ∷ []) []) [] (refuses 10) []
    × HostTermWritten 1 3 (word (1 ∷ []) (1 ∷ []) []) [] (refuses 10) []
    × HostTermWritten 1 3 (word (1 ∷ []) (2 ∷ []) (4 ∷ (4 ∷ []))) [] (refuses 10) []
    × HostTermWritten 1 3 (word (1 ∷ []) (1 ∷ []) (16777216 ∷ [])) [] (refuses 4) []
    × HostTermWritten 1 3 s9_word [] (refuses 9) []
unfolding up_to form_of write_term valid_word rising positive total in_order in_order_by_page next places placed raised stored
    term_block sums sized be block body runs fours pointer after_zero bit words words_for upper lower zeros width greatest
    s9_word
term_numbers_met = (refl, refl, refl, refl, refl, refl, refl, refl, refl, refl, refl)

-- 9, 1, 3 for an unknown version, 4 by N and by T, 5 for a byte left over, and 1 for a term that is not there
pub close_numbers_met : HostIndexClosed [] 1 0 0 0 (refuses 9) []
    × HostIndexClosed [] 0 0 0 0 (refuses 1) []
    × HostIndexClosed (replicate 11 0) 11 3 16777217 0 (refuses 3) (replicate 11 0)
    × HostIndexClosed (replicate 11 0) 11 1 16777217 0 (refuses 4) (replicate 11 0)
    × HostIndexClosed (replicate 11 0) 11 1 0 4097 (refuses 4) (replicate 11 0)
    × HostIndexClosed (replicate 12 0) 12 1 0 0 (refuses 5) (replicate 12 0)
    × HostIndexClosed (replicate 11 0) 11 1 0 1 (refuses 1) (replicate 11 0)
unfolding up_to close_index close_refusal terms_refusal inside accepted
close_numbers_met = (refl, refl, refl, refl, refl, refl, refl)

-- a refused card
pub card_refused_met : HostIndexChecked [] 1 × HostAnswered [] [] [] (reports 1 0 0) []
unfolding index_refusal ask put reply joined laid accepted
card_refused_met = (refl, refl)

-- The premises of FormSentences.antt can be met, by computation: a word on all of three pages is dense, and two pages
-- of eight are not. More blocks of bitmaps, their seeks and their refusals are rows of the table (crates/rules).
use mathlib.Core.Bool.{true}
use mathlib.Core.Path.{◌≡◌, refl}
use mathlib.Core.List.{[], ◌∷◌}
use Prim.Native.Nat.{◌+◌, ◌*◌}
use native.Mathlib.Omega.{arith}
use lib.ListN.{get_or, set, replicate}
use Rattle.rules.specs.Limits.{up_to}
use Rattle.rules.specs.Refusal.{accepted, and_then}
use Rattle.rules.specs.Bytes.{be, be_at, sized, same}
use Rattle.rules.specs.Runs.{bit, run_word, run_bit, field, words_for, words}
use Rattle.rules.specs.List.{rising, greatest, width, zeros, upper, lower, after_zero, pointer, fours, lower_at, upper_at}
use Rattle.rules.specs.List.{size, runs, body, block, map_of, ones_up_to, pages_below, map_at, map_size, map_body, map_block}
use Rattle.rules.specs.List.{dense, form_of}
use Rattle.rules.specs.ReadList.{stated, list_u, list_n, elements, read_list, map_elements, read_map, form_at, decode}
use Rattle.rules.specs.ReadList.{is_block, refusal_in, part_refusal}
use Rattle.rules.specs.Write.{laid, stored}
use Rattle.rules.specs.Term.{Word, total, sums, next, raised, placed, places, positive, in_order, in_order_by_page}
use Rattle.rules.specs.Term.{valid_word, term_block, write_term}
use Rattle.rules.specs.Parts.{after, part, inside}
use Rattle.rules.specs.ReadTerm.{lists_of, pages_of, counts_of, positions_of, disagree, term_refusal}
use Rattle.rules.specs.Index.{terms, valid_words, valid_card}
use Rattle.rules.specs.Table.{at_front}
use Rattle.hostlaws.specs.Host.{HostTermChecked, HostTermWritten}
use Rattle.demands.specs.Faults.{Dense}

abbrev full : Word
full = at_front (0 ∷ (1 ∷ (2 ∷ []))) 3

pub dense_met : Dense 3 3
unfolding zeros width greatest
dense_met = (omega arith, omega arith)

-- equality: U = 8, n = 2
pub equal_met : 2 + zeros 8 (width 8 2) + 2 * width 8 2 ≡ 8
unfolding zeros width greatest
equal_met = refl

-- the same words in a card of version 1 and in one of version 2
pub both_met : (valid_card 1 3 (full ∷ []) ≡ true) × (valid_card 2 3 (full ∷ []) ≡ true)
unfolding up_to be sized bit words_for words rising greatest width zeros upper lower after_zero pointer fours size runs
    body block map_of ones_up_to pages_below map_body map_block dense form_of total sums next raised placed places positive
    in_order in_order_by_page valid_word term_block terms valid_words valid_card at_front
both_met = (refl, refl)

-- written for version 2 it is a bitmap: byte 4 of its pages is 2, and 1 for version 1
pub written_met :
    HostTermWritten 2 3 full (replicate 68 0) (record { refusal = 0; length = 68 }) (term_block 2 3 full)
    × (get_or (pages_of (term_block 2 3 full)) 4 0 ≡ 2)
    × (get_or (pages_of (term_block 1 3 full)) 4 0 ≡ 1)
unfolding up_to be be_at sized bit words_for words rising greatest width zeros upper lower after_zero pointer fours size
    runs body block map_of ones_up_to pages_below map_body map_block dense form_of stated laid stored total sums next raised
    placed places positive in_order in_order_by_page valid_word term_block write_term after part lists_of pages_of at_front
written_met = (refl, refl, refl)

-- the check accepts each for its version, and refuses each for the other, with 3; an unknown version is 3; n above U,
-- 5, comes before the form, and the form before the length
pub checked_met : HostTermChecked 2 (term_block 2 3 full) 0
    × HostTermChecked 1 (term_block 1 3 full) 0
    × HostTermChecked 2 (term_block 1 3 full) 3
    × HostTermChecked 1 (term_block 2 3 full) 3
    × HostTermChecked 3 (term_block 2 3 full) 3
    × HostTermChecked 1 (set (term_block 2 3 full) 17 4) 5
    × HostTermChecked 1 (set (term_block 2 3 full) 17 2) 3
unfolding up_to accepted and_then be be_at sized same bit run_word run_bit field words_for words rising greatest width zeros
    upper lower after_zero pointer fours lower_at upper_at size runs body block map_of ones_up_to pages_below map_at map_size
    map_body map_block dense form_of stated list_u list_n elements read_list map_elements read_map form_at decode is_block
    refusal_in part_refusal total sums next raised placed places term_block after part inside lists_of pages_of counts_of
    positions_of disagree term_refusal at_front
checked_met = (refl, refl, refl, refl, refl, refl, refl)

-- Every row of the table of samples holds, by computation.
use lib.Dec.{T}
use Rattle.rules.specs.Limits.{up_to}
use Rattle.rules.specs.Refusal.{accepted, and_then}
use Rattle.rules.specs.Bytes.{be, be_at, sized, same}
use Rattle.rules.specs.Runs.{bit, run_word, run_bit, field, words_for, words}
use Rattle.rules.specs.List.{rising, valid_list, greatest, width, zeros, upper, lower, after_zero, pointer}
use Rattle.rules.specs.List.{fours, lower_at, upper_at, size, runs, body, block, map_of, ones_up_to, pages_below, map_at}
use Rattle.rules.specs.List.{map_size, map_body, map_block, dense, form_of}
use Rattle.rules.specs.ReadList.{stated, list_u, list_n, elements, read_list, map_elements, read_map, form_at, decode}
use Rattle.rules.specs.ReadList.{is_block, refusal_in, list_refusal, part_refusal}
use Rattle.rules.specs.Write.{laid, stored, write_list}
use Rattle.rules.specs.Term.{total, sums, next, raised, placed, places, positive, in_order, in_order_by_page}
use Rattle.rules.specs.Term.{valid_word, term_block}
use Rattle.rules.specs.Term.{write_term}
use Rattle.rules.specs.InPlace.{emptied, from, with_ones, number_of, added, pointed, map_emptied, map_added, map_numbered}
use Rattle.rules.specs.Stream.{announce_refusal, counts_at, positions_at, stream_size, announced, opened, over, live}
use Rattle.rules.specs.Stream.{added_word, follows, advanced, complete, size_of, spoilt, begin_term, going, put_postings}
use Rattle.rules.specs.Stream.{pointed_word, end_term, put_all, together, stream_word, stream_form, second_at, third_at}
use Rattle.rules.specs.Parts.{after, part, inside}
use Rattle.rules.specs.ReadTerm.{lists_of, pages_of, counts_of, positions_of, gaps, less, lowered, read_word, disagree}
use Rattle.rules.specs.ReadTerm.{term_refusal}
use Rattle.rules.specs.Index.{index_front, terms, card, valid_words, valid_card, index_v, index_n, index_t, term_part, word_of}
use Rattle.rules.specs.Index.{terms_refusal, index_refusal}
use Rattle.rules.specs.Seek.{place_of, bits_of, cursor_bit, start_of, looks_to, walk, gone, arrived, walked, walk_from}
use Rattle.rules.specs.Seek.{move, seek}
use Rattle.rules.specs.Common.{lead_from, lead_of, reader, readers_of, seek_by, moved_by, before, stopped, agree, counted, nothing, rounds}
use Rattle.rules.specs.Common.{lead_pages, other_pages, common_from, common}
use Rattle.rules.specs.Plain.{first_from, at_least, member, in_all, shared_by, common_pages, positions_among}
use Rattle.rules.specs.Plain.{positions_on, phrase_of, stands, starts_among, starts, with_starts}
use Rattle.rules.specs.Questions.{numbered, pages_in, lists_in, words_in, by_rank, by_bound, by_common, by_phrase}
use Rattle.rules.specs.Questions.{terms_of, offsets_of, phrase_in, answer, all_below, pair_good, words_good}
use Rattle.rules.specs.Questions.{offsets_good, phrase_good, good_question, kind_of, count_of, args_of, behind}
use Rattle.rules.specs.Questions.{well_formed, replies}
use Rattle.rules.specs.Ask.{fitting, fitted, reply, joined, put, ask}
use Rattle.rules.specs.Screen.{screen_good, screen_pages, screen_counts, is_full, unshown, showing, screen}
use Rattle.rules.specs.Program.{decimal, digits, line, lines, refused_word, refused_line, numbers_of, printed_reply}
use Rattle.rules.specs.Program.{printed}
use Rattle.rules.specs.Samples.{same_refusal, same_found, sought_so, holds, every}
use Rattle.rules.specs.Table.{stepped, s1, s1_list, s2, s8, s9, s9_word, at_front, s12, torque_bolt, s256, map_term}
use Rattle.rules.specs.Table.{samples}

pub samples_hold : T (every samples)
unfolding up_to accepted and_then be be_at sized same bit run_word run_bit field words_for words rising valid_list greatest width zeros upper lower after_zero pointer fours lower_at upper_at size runs body block map_of ones_up_to pages_below map_at map_size map_body map_block dense form_of stated list_u list_n elements read_list map_elements read_map form_at decode is_block refusal_in list_refusal part_refusal laid stored write_list total sums next raised placed places positive in_order in_order_by_page valid_word term_block write_term emptied from with_ones number_of added pointed map_emptied map_added map_numbered announce_refusal counts_at positions_at stream_size announced opened over live stream_form second_at third_at added_word follows advanced complete size_of spoilt begin_term going put_postings pointed_word end_term put_all together stream_word after part inside lists_of pages_of counts_of positions_of gaps less lowered read_word disagree term_refusal index_front terms card valid_words valid_card index_v index_n index_t term_part word_of terms_refusal index_refusal place_of bits_of cursor_bit start_of looks_to walk gone arrived walked walk_from move seek lead_from lead_of reader readers_of seek_by moved_by before stopped agree counted nothing rounds lead_pages other_pages common_from common first_from at_least member in_all shared_by common_pages positions_among positions_on phrase_of stands starts_among starts with_starts numbered pages_in lists_in words_in by_rank by_bound by_common by_phrase terms_of offsets_of phrase_in answer all_below pair_good words_good offsets_good phrase_good good_question kind_of count_of args_of behind well_formed replies fitting fitted reply joined put ask screen_good screen_pages screen_counts is_full unshown showing screen decimal digits line lines refused_word refused_line numbers_of printed_reply printed same_refusal same_found sought_so holds every stepped s1 s1_list s2 s8 s9 s9_word at_front s12 torque_bolt s256 map_term samples
samples_hold = tt

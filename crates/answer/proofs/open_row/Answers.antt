-- `open_row` finds the words' terms, which are all on the card, and opens three lists of each.
use mathlib.Core.Path.{sym, ◌∙◌}
use native.Mathlib.Omega.{arith}
use Rattle.rules.specs.Index.{index_t}
use Rattle.questions.proofs.GoodLaws.{words_parts}
use Rattle.wordlists.proofs.LyingLaws.{word_below}
use Rattle.wordlists.proofs.OpenLaws.{lead_within}
use Rattle.triallaws.proofs.RowLaws.{row_asked}
use Rattle.answer.proofs.open_row.Goals as goal

pub find_terms-requires : goal.find_terms-requires
find_terms-requires c =
    let b = c in
    let T = index_t b.args.card.now in
    let ts = b.args.terms.now in
    (b.requires.0, word_below T ts b.requires.1, (words_parts T ts b.requires.1).1)

pub overflow_cast-lists : goal.overflow_cast-lists
overflow_cast-lists c =
    let o = c.open_found-lead.ensures in
    omega (arith, lead_within _ _ _ o.1 _ o.0, o.1.lists.few)

pub returns : goal.returns
returns c =
    let b = c in
    let o = c.open_found-lead.ensures in
    row_asked _ _ b.requires.0 b.requires.1 b.args.lists.now _ _ _ _ b.requires.2 b.requires.3 o.0 o.1
    c.open_words.ensures c.open_words-2.ensures

pub shape_of-lists : goal.shape_of-lists
shape_of-lists c = (returns c).0.row ∙ sym c.requires.2

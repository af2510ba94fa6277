-- `open_pages` finds the words' terms, which are all on the card.
use Rattle.rules.specs.Index.{index_t}
use Rattle.questions.proofs.GoodLaws.{words_parts}
use Rattle.wordlists.proofs.LyingLaws.{word_below}
use Rattle.wordlists.proofs.open_pages.Goals as goal

pub find_terms-requires : goal.find_terms-requires
find_terms-requires c =
    let b = c in
    let T = index_t b.args.card.now in
    let ts = b.args.terms.now in
    (b.requires.0, word_below T ts b.requires.1, (words_parts T ts b.requires.1).1)

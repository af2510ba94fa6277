-- `words_good` tests the number of terms, and then each of them.
use borrow.Author.Tests.{le-leb, lt-leb}
use lib.ListN.{length}
use Rattle.rules.specs.Questions.{words_good}
use Rattle.questions.proofs.words_good.Goals as goal

pub returns-then-args-lt1 : goal.returns-then-args-lt1
unfolding words_good
returns-then-args-lt1 c = rw (lt-leb 1 (length c.args.args.now) c.if-args-lt1.true)

pub returns-then-args-gt-PHRASE_LIMIT : goal.returns-then-args-gt-PHRASE_LIMIT
unfolding words_good
returns-then-args-gt-PHRASE_LIMIT c =
    let l = length c.args.args.now in
    rw (le-leb 1 l c.if-args-lt1.false, lt-leb l 8 c.if-args-gt-PHRASE_LIMIT.true)

pub returns : goal.returns
unfolding words_good
returns c =
    let l = length c.args.args.now in
    rw (le-leb 1 l c.if-args-lt1.false, le-leb l 8 c.if-args-gt-PHRASE_LIMIT.false) c.all_below.ensures

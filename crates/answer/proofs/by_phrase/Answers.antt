-- `by_phrase` opens the words' lists, and puts what is found.
use native.Mathlib.Omega.{arith}
use Rattle.triallaws.proofs.RowLaws.{opened_asked, opened_found}
use Rattle.answer.proofs.by_phrase.Lts
use Rattle.answer.proofs.by_phrase.Reads
use Rattle.answer.proofs.by_phrase.Tie
use Rattle.answer.proofs.by_phrase.Goals as goal

abbrev After-open_phrase-k : Type 0
After-open_phrase-k = Lts.After-open_phrase Tie.the-claims Reads.Pre Reads.Post

abbrev Start : Type 0
Start = Lts.Start Tie.the-claims Reads.Pre Reads.Post

abbrev start : After-open_phrase-k → Start
start c = c.before.before.before.before.before.before

-- eight numbers hold the terms
pub slice_bounds-put_starts-end : goal.slice_bounds-put_starts-end
slice_bounds-put_starts-end c =
    let o = c.open_phrase-k.ensures in
    omega (arith, o.eight, o.few)

pub put_starts-requires : goal.put_starts-requires
put_starts-requires c =
    let t = c in
    opened_asked _ _ t.requires.1 _ _ _ t.open_phrase-k.ensures

pub returns : goal.returns
returns c =
    let p = c in
    let t = p in
    rw (opened_found _ _ t.requires.1 _ _ _ t.open_phrase-k.ensures) p.put_starts.ensures

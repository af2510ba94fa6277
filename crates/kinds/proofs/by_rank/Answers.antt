-- `by_rank` reads the word's pages.
use Rattle.kinds.proofs.KindLaws.{pages_are, pages_valid}
use Rattle.kinds.proofs.by_rank.Goals as goal

pub put_ranked-requires : goal.put_ranked-requires
put_ranked-requires c =
    let a = c in
    rw c.pages_in.ensures (pages_valid a.args.card.now a.args.t a.requires.0 a.requires.1)

pub returns : goal.returns
returns c =
    let p = c in
    let a = p.args in
    rw (pages_are a.card.now a.t, ← p.pages_in.ensures) p.put_ranked.ensures

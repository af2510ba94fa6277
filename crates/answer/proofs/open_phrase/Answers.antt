-- `open_phrase` puts the pairs apart, and opens the lists of the terms.
use mathlib.Core.Path.{sym, ◌∙◌}
use native.Mathlib.Omega.{arith}
use lib.ListN.{drop, length-drop}
use lib.Seq.{length-take-le}
use Rattle.offsets.proofs.PairLaws.{phrase_parts}
use Rattle.questions.proofs.GoodLaws.{words_parts}
use Rattle.triallaws.proofs.RowLaws.{pairs_ready, phrase_opened}
use Rattle.answer.proofs.open_phrase.Lts
use Rattle.answer.proofs.open_phrase.Reads
use Rattle.answer.proofs.open_phrase.Tie
use Rattle.answer.proofs.open_phrase.Goals as goal

abbrev After-split_pairs-k : Type 0
After-split_pairs-k = Lts.After-split_pairs Tie.the-claims Reads.Pre Reads.Post

abbrev Start : Type 0
Start = Lts.Start Tie.the-claims Reads.Pre Reads.Post

abbrev After-slice_known-5-1 : Type 0
After-slice_known-5-1 = Lts.After-slice_known5 Tie.the-claims Reads.Pre Reads.Post

abbrev start : After-split_pairs-k → Start
start c = c.before.before.before.before.before.before.before

pub split_pairs-k-requires : goal.split_pairs-k-requires
split_pairs-k-requires c =
    let b = c in
    let p = phrase_parts _ _ b.requires.1 in
    let w = words_parts _ _ p.1 in
    let l = b.args.lists.now in (
      p.0,
      omega (arith, p.0, w.1),
      b.requires.2,
      length-take-le 8 (drop 193 l) (omega (arith, length-drop 193 l, b.requires.3)),
    )

-- eight numbers hold the terms
pub slice_bounds-open_row-end : goal.slice_bounds-open_row-end
slice_bounds-open_row-end c =
    let t = c in
    let w = words_parts _ _ (phrase_parts _ _ t.requires.1).1 in
    omega (arith, t.split_pairs-k.ensures.0, t.split_pairs-k.ensures.1.terms_room, w.1)

pub open_row-requires : goal.open_row-requires
open_row-requires c =
    let t = c in
    let b = t in
    let e = t.split_pairs-k.ensures in
    let r = pairs_ready _ _ b.requires.1 _ _ e.0 _ b.args.lists.now e.1 b.requires.3 in
    (b.requires.0, r.0, r.1, r.2)

-- where the pairs were put apart, seen from the end
abbrev apart : After-slice_known-5-1 → After-split_pairs-k
apart c = c.before.before.before.before.before.before.before.before.before

pub returns : goal.returns
returns c =
    let o = c.open_row.ensures in
    let t = c in
    let b = t in
    let e = t.split_pairs-k.ensures in
    phrase_opened _ _ b.requires.1 _ _ e.0 _ b.args.lists.now e.1 b.requires.3 _ o.0 o.1

pub shape_of-terms : goal.shape_of-terms
shape_of-terms c = (returns c).eight ∙ sym c.requires.2

pub shape_of-lists : goal.shape_of-lists
shape_of-lists c = (returns c).asked.row ∙ sym c.requires.3

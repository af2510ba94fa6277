-- `find_term` walks: the terms of an accepted index can be walked.
use native.Mathlib.Omega.{arith}
use Rattle.rules.specs.Index.{term_part}
use Rattle.findlaws.proofs.FindLaws.{index_walks}
use Rattle.findterm.proofs.find_term.Goals as goal

pub block_of-requires : goal.block_of-requires
block_of-requires c =
    let a = c.args in
    let p = c.requires in
    index_walks a.card.now p.0 _ (omega (arith, p.1))

pub returns : goal.returns
unfolding term_part
returns c = c.block_of.ensures

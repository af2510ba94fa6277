-- `lists_from` walks: the lists of an accepted term can be walked.
use native.Mathlib.Omega.{arith}
use Rattle.rules.specs.ReadTerm.{lists_of}
use Rattle.findlaws.proofs.FindLaws.{term_walks}
use Rattle.findterm.proofs.lists_from.Goals as goal

pub blocks_from-requires : goal.blocks_from-requires
blocks_from-requires c =
    let a = c.args in
    let p = c.requires in
    term_walks a.term.now p.0 _ (omega (arith, p.1))

pub returns : goal.returns
unfolding lists_of
returns c = c.blocks_from.ensures

-- `term_at` takes the part that the term states from its start on.
use mathlib.Core.Path.{◌∙◌}
use Rattle.findlaws.proofs.FindLaws.{start_held, start_part}
use Rattle.findterm.proofs.term_at.Goals as goal

pub part_at-requires : goal.part_at-requires
part_at-requires c =
    let b = c in
    start_held b.args.card.now b.requires.1.number b.args.at b.requires.0 b.requires.1.starts

pub returns : goal.returns
returns c t o =
    let a = c.args in
    c.part_at.ensures ∙ start_part a.card.now a.at t o

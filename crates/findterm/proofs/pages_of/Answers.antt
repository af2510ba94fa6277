-- `pages_of` takes the list at the front of the bytes of all lists.
use mathlib.Core.Path.{◌∙◌}
use Rattle.rules.specs.ReadTerm.{lists_of, pages_of}
use Rattle.parts.proofs.PlaceLaws.{after_held, part_front}
use Rattle.findlaws.proofs.FindLaws.{term_walks}
use native.Mathlib.Omega.{arith}
use Rattle.findterm.proofs.pages_of.Goals as goal

pub part_at-requires : goal.part_at-requires
unfolding lists_of
part_at-requires c =
    let b = c in
    rw c.lists_from.ensures (after_held 5 _ b.args.term.now
    (term_walks b.args.term.now b.requires _ (omega arith)))

pub returns : goal.returns
unfolding pages_of
returns c =
    let a = c.args in
    rw c.lists_from.ensures at c.part_at.ensures ∙ part_front 0 (lists_of a.term.now)

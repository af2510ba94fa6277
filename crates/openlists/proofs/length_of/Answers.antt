-- `length_of` reads the n of an accepted block.
use mathlib.Core.Path.{ap, sym, ◌∙◌}
use Rattle.rules.specs.ReadList.{list_n, form_at}
use Rattle.maplaws.proofs.Theorems.{valid_length}
use Rattle.openlists.specs.Places.{place_part, place_pages}
use Rattle.openlists.proofs.length_of.Goals as goal

pub read_u32-requires : goal.read_u32-requires
read_u32-requires c =
    let start = c in
    rw c.part_of.ensures
    start.requires.1.accepted.framed.header

pub returns : goal.returns
unfolding place_pages list_n
returns c =
    let start = c in
    let s = place_part start.args.card.now start.args.places.now start.args.i in
    c.read_u32.ensures.0 ∙ ap list_n c.part_of.ensures ∙ sym (valid_length (form_at s) s start.requires.1.accepted)

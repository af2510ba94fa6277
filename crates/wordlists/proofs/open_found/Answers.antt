-- `open_found` places the words' pages, and opens the lists there.
use mathlib.Core.Path.{ap, ◌∙◌}
use Rattle.rules.specs.Common.{lead_of}
use Rattle.wordlists.proofs.OpenLaws.{pages_places, pages_alike, placed_lists, pages_opened}
use Rattle.wordlists.proofs.open_found.Goals as goal

pub open_lists-requires : goal.open_lists-requires
open_lists-requires c =
    let p = c.place_lists in
    let b = c in (
      pages_places b.args.card.now b.args.terms.now p.new.places b.requires.0 b.requires.1
          p.array_long p.ensures,
      pages_alike b.args.card.now b.args.terms.now
          p.new.places b.requires.0 b.requires.1 p.array_long p.ensures,
      b.requires.2,
    )

pub returns : goal.returns
returns c =
    let o = c in
    let p = o.place_lists in
    let b = c in
    let lists =
    placed_lists b.args.card.now b.args.terms.now p.new.places b.requires.0 b.requires.1
    p.array_long p.ensures in (
      o.open_lists.ensures.0 ∙ ap lead_of lists,
      pages_opened b.args.card.now b.args.terms.now p.new.places b.requires.0 b.requires.1
          p.array_long p.ensures o.open_lists.new.shapes o.open_lists.ensures.1,
    )

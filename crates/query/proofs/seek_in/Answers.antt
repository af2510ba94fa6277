-- `seek_in` seeks on the part of the card that the list's numbers name, and moves the hand alone.
use mathlib.Core.Path.{refl}
use Rattle.querylaws.specs.Lists.{part_at, form_in, pages_at}
use Rattle.query.proofs.seek_in.Goals as goal

pub seek-hand-requires : goal.seek-hand-requires
unfolding part_at form_in pages_at
seek-hand-requires c =
    let p = c.requires in
    let from = c.number-from.ensures in
    let to = c.number-to.ensures in
    rw (from, to, c.shape_in.ensures) (p.list.opened, rw p.list.bound p.held, p.seeks, p.looks)

pub returns : goal.returns
unfolding part_at form_in pages_at
returns c =
    let p = c.requires in
    let from = c.number-from.ensures in
    let to = c.number-to.ensures in (
      refl,
      rw (c.seek-hand.ensures.0, from, to, p.list.bound),
    )

-- `open_list` reads the place, which fits 32 bits.
use Prim.Native.Nat.{◌+◌, ◌*◌}
use Rattle.openlists.specs.Places.{place_part, shape_at}
use Rattle.openlists.proofs.open_list.Goals as goal

pub numbers_at-requires : goal.numbers_at-requires
unfolding place_part
numbers_at-requires c =
    let b = c in
    let p = b.requires.1 in
    let short = (c.shared_slice_known-4-1.given (2 * b.args.i + 1)).fits in
    (record { starts = p.starts; ends = p.ends; short = short }, p.accepted)

pub returns : goal.returns
unfolding place_part shape_at
returns c = c.numbers_at.ensures

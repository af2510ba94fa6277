-- `add_map` lays elements one by one: the ones of those that are passed are set or in hand.
use Rattle.std.proofs.Common.{◌≡◌, length, subst, arith}
use Rattle.addlaws.specs.Adding.{MapLaid}
use Rattle.addlaws.proofs.MapLaws.{map_in, map_none, map_room, map_more, map_added_lem}
use Rattle.adding.proofs.add_map.Goals as goal

pub loop-x-init : goal.loop-x-init
loop-x-init c = map_none c.requires.asked (λ i. (c.type_inv.block i).fits)

pub slice_bounds-add_high-count : goal.slice_bounds-add_high-count
slice_bounds-add_high-count c = omega (arith, map_in c.requires.asked, c.loop-x.auto.block)

pub slice_bounds-add_high-start : goal.slice_bounds-add_high-start
slice_bounds-add_high-start c = omega (arith, map_in c.requires.asked, c.loop-x.auto.block)

pub add_high-highs-requires : goal.add_high-highs-requires
add_high-highs-requires c = map_room c.requires.asked c.loop-x.invariant

pub loop-x-preserved : goal.loop-x-preserved
loop-x-preserved c =
    map_more c.requires.asked c.loop-x.invariant c.loop-x-test.true c.add_high-highs.ensures

pub slice_bounds-flush-count : goal.slice_bounds-flush-count
slice_bounds-flush-count c = omega (arith, map_in c.requires.asked, c.loop-x.auto.block)

pub slice_bounds-flush-start : goal.slice_bounds-flush-start
slice_bounds-flush-start c = omega (arith, map_in c.requires.asked, c.loop-x.auto.block)

pub flush-requires : goal.flush-requires
flush-requires c = map_room c.requires.asked c.loop-x.invariant

pub returns : goal.returns
returns c U asked =
    let a = c.args in
    let l = c.loop-x in
    let n : l.x-index ≡ length a.list.now = omega (arith, l.auto.x-index-end, c.loop-x-test.false) in
    map_added_lem asked
    (subst (λ j. MapLaid a.at a.list.now j l.highs a.block.now l.block) n l.invariant) c.flush.ensures

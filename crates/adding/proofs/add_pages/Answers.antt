-- `add_pages` lays the pages into a bitmap or into two runs, by what the width tells.
use Rattle.addlaws.proofs.PageLaws.{fits_runs, map_asked, laid_map, laid_runs}
use Rattle.adding.proofs.add_pages.Goals as goal

pub add_map-requires : goal.add_map-requires
add_map-requires c =
    let s = c in
    let p = s.requires in
    record {
      u = s.args.g.u;
      asked = map_asked p.fitting c.if-g-eq-BITMAP.true s.args.list.now p.rises;
    }

pub add_all-requires : goal.add_all-requires
add_all-requires c =
    let s = c in
    let p = s.requires in
    (fits_runs p.fitting c.if-g-eq-BITMAP.false, p.few, p.rises)

pub returns-then-g-eq-BITMAP : goal.returns-then-g-eq-BITMAP
returns-then-g-eq-BITMAP c o shape =
    let k = c in
    let b = k in
    let s = b in
    let a = s.args in
    let w = b.if-g-eq-BITMAP.true in
    laid_map o a.g shape a.from a.list.now a.block.now k.add_map.new.block w
    (k.add_map.ensures a.g.u (map_asked s.requires.fitting w a.list.now s.requires.rises))

pub returns-else-g-eq-BITMAP : goal.returns-else-g-eq-BITMAP
returns-else-g-eq-BITMAP c o shape =
    let k = c in
    let b = k in
    let a = b.args in
    laid_runs o a.g shape a.from a.list.now a.block.now k.add_all.new.block b.if-g-eq-BITMAP.false
    k.add_all.ensures

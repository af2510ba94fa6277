-- `add_page` lays the page as the one of a bitmap's list or as an element of two runs, by what the width tells.
use mathlib.Core.Path.{◌≡◌, sym, ap, ◌∙◌}
use mathlib.Core.List.{List, [], ◌∷◌}
use lib.ListN.{get_or}
use Rattle.rules.specs.InPlace.{map_added}
use Rattle.addlaws.proofs.MoreLaws.{list_one}
use Rattle.addlaws.proofs.PageLaws.{laid_map, laid_runs, place_map, place_runs}
use Rattle.adding.proofs.add_page.Lts
use Rattle.adding.proofs.add_page.Reads
use Rattle.adding.proofs.add_page.Tie
use Rattle.adding.proofs.add_page.Goals as goal

abbrev Start : Type 0
Start = Lts.Start Tie.the-claims Reads.Pre Reads.Post

-- the list has the page alone
alone : (s : Start) → s.args.list.now ≡ get_or s.args.list.now 0 0 ∷ []
alone s = list_one s.args.list.now s.requires.0

pub add_map-requires : goal.add_map-requires
add_map-requires c =
    let s = c.before.before.before.before.before in
    let p = s.requires.1 in
    record { u = p.shape.u; asked = place_map p.slot c.if-w-eq-BITMAP.true s.args.list.now (alone s) }

pub add_one-requires : goal.add_one-requires
add_one-requires c =
    let p = c.requires.1 in
    record { shape = p.shape; slot = place_runs p.slot c.if-w-eq-BITMAP.false }

pub returns-then-w-eq-BITMAP : goal.returns-then-w-eq-BITMAP
returns-then-w-eq-BITMAP c o g slot =
    let k = c in
    let b = k in
    let s = b.before.before.before.before.before.before.before.before in
    let a = s.args in
    let x = get_or a.list.now 0 0 in
    let w = b.if-w-eq-BITMAP.true in
    laid_map o g slot.fitting.shape a.i (x ∷ []) a.block.now k.add_map.new.block (slot.width_is ∙ w)
    (k.add_map.ensures g.u (place_map slot w a.list.now (alone s))
    ∙ ap (λ (xs : List _). map_added g.u xs a.block.now) (alone s))

pub returns-else-w-eq-BITMAP : goal.returns-else-w-eq-BITMAP
returns-else-w-eq-BITMAP c o g slot =
    let k = c in
    let b = k in
    let a = b.args in
    let w = b.if-w-eq-BITMAP.false in
    laid_runs o g slot.fitting.shape a.i (get_or a.list.now 0 0 ∷ []) a.block.now k.add_one.new.block
    (λ h. w (sym slot.width_is ∙ h)) (k.add_one.ensures g (place_runs slot w))

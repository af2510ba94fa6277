-- `element_at` finds the one of the element: in a bitmap its place is the element, in two runs it tells the high part.
use mathlib.Core.Path.{sym}
use Rattle.rules.specs.ReadList.{form_at}
use Rattle.readlaws.proofs.FormLaws.{map_reads, form_reads, form_sought, wide_open, narrow_open}
use Rattle.byrank.proofs.element_at.Goals as goal

pub last_number-requires : goal.last_number-requires
last_number-requires c =
    let s = c.args.block.now in
    (form_reads (form_at s) s c.args.g c.requires.0).headed

pub place_of-found-requires : goal.place_of-found-requires
place_of-found-requires c =
    let start = c in
    let a = start.args in
    let s = a.block.now in
    let l = c.last_number in
    form_sought (form_at s) s a.g start.requires.0 l.result a.rank l.ensures start.requires.1

pub returns-then-g-eq-BITMAP : goal.returns-then-g-eq-BITMAP
returns-then-g-eq-BITMAP c =
    let found = c in
    let start = found in
    let a = start.args in
    let s = a.block.now in
    let o = wide_open (form_at s) s a.g start.requires.0 c.if-g-eq-BITMAP.true in
    sym ((map_reads s a.g o).paged found.place_of-found.result a.rank found.place_of-found.ensures)

pub value_at-requires : goal.value_at-requires
value_at-requires c =
    let found = c in
    let start = found in
    let s = start.args.block.now in
    (narrow_open (form_at s) s start.args.g start.requires.0 c.if-g-eq-BITMAP.false, found.place_of-found.ensures)

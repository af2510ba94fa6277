-- `point_pages` writes numbers or pointers, by what the width tells.
use mathlib.Core.Path.{◌≡◌, sym, subst}
use Rattle.rules.specs.List.{Form}
use Rattle.rules.specs.InPlace.{form_pointed}
use Rattle.filllaws.proofs.WriteLaws.{bitmap_of, runs_of}
use Rattle.addlaws.proofs.PageLaws.{fits_map, fits_runs}
use Rattle.endterm.proofs.point_pages.Goals as goal

pub set_numbers-requires : goal.set_numbers-requires
set_numbers-requires c = fits_map c.requires.fitting c.if-g-eq-BITMAP.true

pub set_pointers-requires : goal.set_pointers-requires
set_pointers-requires c = fits_runs c.requires.fitting c.if-g-eq-BITMAP.false

pub returns-then-g-eq-BITMAP : goal.returns-then-g-eq-BITMAP
returns-then-g-eq-BITMAP c o shape =
    let k = c in
    let b = k in
    let a = b.args in
    let g = a.g in
    subst (λ (p : Form). k.set_numbers.new.block ≡ form_pointed p g.u g.n a.block.now)
    (sym (bitmap_of o g.u g.n g shape b.if-g-eq-BITMAP.true)) k.set_numbers.ensures

pub returns-else-g-eq-BITMAP : goal.returns-else-g-eq-BITMAP
returns-else-g-eq-BITMAP c o shape =
    let k = c in
    let b = k in
    let a = b.args in
    let g = a.g in
    subst (λ (p : Form). k.set_pointers.new.block ≡ form_pointed p g.u g.n a.block.now)
    (sym (runs_of o g.u g.n g shape b.if-g-eq-BITMAP.false)) k.set_pointers.ensures

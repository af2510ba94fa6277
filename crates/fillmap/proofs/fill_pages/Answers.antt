-- `fill_pages` writes a bitmap where the width tells one, and two runs else.
use mathlib.Core.Path.{◌≡◌, sym, ap, ◌∙◌, subst}
use mathlib.Core.List.{List}
use Prim.Native.Nat.{ℕ}
use Rattle.rules.specs.List.{Form, two_runs, bitmap, form_block}
use Rattle.rules.specs.Write.{laid}
use Rattle.shape.specs.declared.Shape.{Shape}
use Rattle.filllaws.specs.Filling.{FittingAs}
use Rattle.filllaws.proofs.WriteLaws.{bitmap_of, runs_of}
use Rattle.fillmap.proofs.fill_pages.Goals as goal

-- the form is the one that the width tells
fits_as : (o p : Form) (g : Shape) (room : List ℕ) → FittingAs o g room → o ≡ p → FittingAs p g room
fits_as o p g room f e = subst (λ x. FittingAs x g room) e f

laid_as : (o p : Form) (U : ℕ) (xs d e : List ℕ) → o ≡ p → e ≡ laid (form_block p U xs) d → e ≡ laid (form_block o U xs) d
laid_as o p U xs d e h q = q ∙ sym (ap (λ x. laid (form_block x U xs) d) h)

pub fill_map-requires : goal.fill_map-requires
fill_map-requires c =
    let t = c in
    let s = c in
    let g = s.args.g in
    let f = s.requires.0 in (
      fits_as f.0 bitmap g s.args.room.now f.1
          (bitmap_of f.0 g.u g.n g f.1.shape t.if-g-eq-BITMAP.true),
      s.requires.1,
      s.requires.2,
    )

pub returns-then-g-eq-BITMAP : goal.returns-then-g-eq-BITMAP
returns-then-g-eq-BITMAP c o e =
    let m = c in
    let t = m in
    let s = m in
    let g = s.args.g in
    laid_as o bitmap g.u s.args.list.now s.args.room.now m.fill_map.new.room
    (bitmap_of o g.u g.n g e t.if-g-eq-BITMAP.true) m.fill_map.ensures

pub fill-requires : goal.fill-requires
fill-requires c =
    let t = c in
    let s = c in
    let g = s.args.g in
    let f = s.requires.0 in (
      fits_as f.0 two_runs g s.args.room.now f.1
          (runs_of f.0 g.u g.n g f.1.shape t.if-g-eq-BITMAP.false),
      s.requires.1,
      s.requires.2,
    )

pub returns : goal.returns
returns c o e =
    let m = c in
    let t = m in
    let s = m in
    let g = s.args.g in
    laid_as o two_runs g.u s.args.list.now s.args.room.now m.fill.new.room
    (runs_of o g.u g.n g e t.if-g-eq-BITMAP.false) m.fill.ensures

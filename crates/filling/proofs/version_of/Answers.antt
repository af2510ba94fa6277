-- `version_of` gives the version of the form that the width tells.
use mathlib.Core.Path.{sym, ap}
use Rattle.rules.specs.List.{form_version}
use Rattle.filllaws.proofs.WriteLaws.{bitmap_of, runs_of}
use Rattle.filling.proofs.version_of.Goals as goal

pub returns-then-g-eq-BITMAP : goal.returns-then-g-eq-BITMAP
returns-then-g-eq-BITMAP c o e =
    let g = c.args.g in
    sym (ap form_version (bitmap_of o g.u g.n g e c.if-g-eq-BITMAP.true))

pub returns : goal.returns
returns c o e =
    let g = c.args.g in
    sym (ap form_version (runs_of o g.u g.n g e c.if-g-eq-BITMAP.false))

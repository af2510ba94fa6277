-- `pages_shape` gives the shape of the form that the version, U and n ask for.
use mathlib.Core.Path.{sym, ap, ◌∙◌}
use Rattle.rules.specs.List.{Form}
use Rattle.shape.specs.Shape.{form_shape}
use Rattle.shape.proofs.ShapeLaws.{form_before, form_dense, form_sparse}
use Rattle.shape.proofs.pages_shape.Goals as goal

pub returns-then-version-lt-MAP_EDITION : goal.returns-then-version-lt-MAP_EDITION
returns-then-version-lt-MAP_EDITION c =
    let a = c.args in
    c.shape_of-g.ensures
    ∙ sym (ap (λ (f : Form). form_shape f a.u a.n) (form_before a.version a.u a.n c.if-version-lt-MAP_EDITION.true))

pub returns-then-is_dense : goal.returns-then-is_dense
returns-then-is_dense c =
    let e = c.before.before.before in
    let a = e.args in
    let d = sym c.is_dense.ensures ∙ c.if-is_dense.true in
    c.map_shape.ensures
    ∙ sym (ap (λ (f : Form). form_shape f a.u a.n) (form_dense a.version a.u a.n e.if-version-lt-MAP_EDITION.false d))

pub returns : goal.returns
returns c =
    let e = c.before.before in
    let a = e.args in
    let d = sym c.is_dense.ensures ∙ c.if-is_dense.false in
    e.shape_of-g.ensures
    ∙ sym (ap (λ (f : Form). form_shape f a.u a.n) (form_sparse a.version a.u a.n e.if-version-lt-MAP_EDITION.false d))

-- `shape_at` gives the shape: an accepted block has its header, and its n and U are within their bounds.
use mathlib.Core.Path.{◌≡◌, sym, ap, ap₂, ◌∙◌}
use mathlib.Core.List.{List}
use Prim.Native.Nat.{ℕ}
use native.Mathlib.Omega.{arith}
use Rattle.rules.specs.List.{map_size, bitmap}
use Rattle.rules.specs.ReadList.{list_u, list_n, form_at}
use Rattle.listlaws.proofs.RefusalLaws.{version_form}
use Rattle.maplaws.specs.Maps.{FormValid}
use Rattle.shape.specs.declared.Shape.{Shape}
use Rattle.shape.specs.Shape.{shape_of, map_shape, form_shape}
use Rattle.readlaws.specs.Open.{FormOpen}
use Rattle.readlaws.proofs.FormLaws.{other_version, valid_opens}
use Rattle.reading.proofs.shape_at.Goals as goal

opens : (s : List ℕ) (g : Shape) → FormValid (form_at s) s → g ≡ form_shape (form_at s) (list_u s) (list_n s)
    → FormOpen (form_at s) s g × (g ≡ form_shape (form_at s) (list_u s) (list_n s))
opens s g a e = (valid_opens (form_at s) s g a e, e)

pub map_in-requires : goal.map_in-requires
unfolding list_u
map_in-requires c =
    let reads = c.before.before.before.before in
    let start = reads.before.before in
    let f = start.requires.framed in
    let e = reads.read_u32-u.ensures.0 in
    let s = start.args.block.now in
    let l = rw (version_form bitmap s c.if-block-eq-MAP_VERSION.true) at f.length_is in
    (l ∙ ap map_size (sym e), omega (arith, f.within, e))

pub returns-then-block-eq-MAP_VERSION : goal.returns-then-block-eq-MAP_VERSION
unfolding list_u list_n
returns-then-block-eq-MAP_VERSION c =
    let reads = c.before.before.before.before in
    let start = reads.before.before.before in
    let s = start.args.block.now in
    opens s c.map_in.result start.requires (rw (version_form bitmap s c.if-block-eq-MAP_VERSION.true)
    (c.map_in.ensures ∙ ap₂ map_shape reads.read_u32-u.ensures.0 reads.read_u32-n.ensures.0))

pub shape_of-requires : goal.shape_of-requires
unfolding list_u list_n
shape_of-requires c =
    let reads = c.before.before.before in
    let f = reads.requires.framed in
    let u = reads.read_u32-u.ensures.0 in
    (omega (arith, f.below, u, reads.read_u32-n.ensures.0), omega (arith, f.within, u))

pub returns : goal.returns
unfolding list_u list_n
returns c =
    let reads = c.before.before.before.before in
    let start = reads.before.before.before in
    let s = start.args.block.now in
    opens s c.shape_of.result start.requires (rw (other_version s c.if-block-eq-MAP_VERSION.false)
    (c.shape_of.ensures ∙ ap₂ shape_of reads.read_u32-u.ensures.0 reads.read_u32-n.ensures.0))

-- `put_header` stores the four parts of a header one after the other.
use mathlib.Core.Path.{ap, ap₂, ◌∙◌}
use mathlib.Core.List.{List}
use Prim.Native.Nat.{ℕ}
use native.Mathlib.Omega.{arith}
use lib.ListN.{set, length-set}
use lib.Seq.{sets}
use Rattle.rules.specs.Bytes.{be}
use Rattle.filling.proofs.put_header.Goals as goal

pub write_u32-requires-2 : goal.write_u32-requires-2
write_u32-requires-2 c =
    let w = c in
    omega (arith, length-set w.write_u32.new.d 4 w.version_of-version.result)

pub write_u32-requires-3 : goal.write_u32-requires-3
write_u32-requires-3 c =
    let w = c in
    omega (arith, length-set w.write_u32.new.d 4 w.version_of-version.result)

pub shape_of-room : goal.shape_of-room
shape_of-room c =
    let w = c in
    omega (arith, length-set w.write_u32.new.d 4 w.version_of-version.result)

pub returns : goal.returns
returns c o e =
    let n = c in
    let u = n in
    let w = u in
    let v = w in
    let g = v.args.g in
    n.write_u32-3.ensures
    ∙ ap (λ (l : List ℕ). sets l 9 (be 4 g.n))
    (u.write_u32-2.ensures ∙ ap₂ (λ (l : List ℕ) (b : ℕ). sets (set l 4 b) 5 (be 4 g.u)) w.write_u32.ensures
    (v.version_of-version.ensures o e))

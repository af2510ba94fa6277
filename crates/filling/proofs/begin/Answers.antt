-- `begin` writes the header: the room has at least its 13 bytes.
use mathlib.Core.Path.{refl}
use mathlib.Core.List.{List, [], ◌∷◌}
use Prim.Native.Nat.{ℕ}
use native.Mathlib.Omega.{arith}
use lib.Seq.{sets}
use Rattle.rules.specs.Limits.{version}
use Rattle.rules.specs.Bytes.{be}
use Rattle.rules.specs.List.{two_runs}
use Rattle.filllaws.proofs.SideLaws.{header_fits}
use Rattle.filllaws.proofs.PartLaws.{framed_none, partly_none}
use Rattle.filling.proofs.begin.Goals as goal

pub put_header-requires : goal.put_header-requires
put_header-requires c =
    omega (arith, header_fits c.args.g c.args.room.now c.requires, c.requires.room)

pub returns : goal.returns
returns c =
    let g = c.args.g in
    let d : List ℕ = c.args.room.now in
    let s1 : List ℕ = sets d 0 (be 4 g.end) in
    let s2 : List ℕ = sets s1 4 (version ∷ []) in
    let s3 : List ℕ = sets s2 5 (be 4 g.u) in
    let z = c.default.ensures in
    let p = c.put_header in
    rw (z.0, z.1.0, z.1.1) (partly_none g d p.new.room
    (framed_none g d c.requires s1 s2 s3 p.new.room refl refl refl (p.ensures two_runs c.requires.shape)))

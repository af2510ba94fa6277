-- `body_ok` hands the block to the pass over its form; two runs without elements have nothing left to test.
use native.Mathlib.Omega.{arith}
use Rattle.checklist.proofs.CheckLaws.{map_asked, map_told, none_told, runs_asked, runs_told}
use Rattle.checklist.proofs.body_ok.Goals as goal

pub map_ok-requires : goal.map_ok-requires
map_ok-requires c =
    let b = c in
    map_asked b.args.g b.args.block.now b.requires c.if-g-eq-BITMAP.true

pub returns-then-g-eq-BITMAP : goal.returns-then-g-eq-BITMAP
returns-then-g-eq-BITMAP c =
    let t = c in
    let b = t in
    map_told b.args.g b.args.block.now b.requires t.if-g-eq-BITMAP.true c.map_ok.result c.map_ok.ensures

pub returns-then-g-eq0 : goal.returns-then-g-eq0
returns-then-g-eq0 c =
    let e = c in
    let b = e in
    none_told b.args.g b.args.block.now b.requires e.if-g-eq-BITMAP.false c.if-g-eq0.true

pub runs_ok-requires : goal.runs_ok-requires
runs_ok-requires c =
    let e = c in
    let b = e in
    runs_asked b.args.g b.args.block.now b.requires e.if-g-eq-BITMAP.false (omega (arith, c.if-g-eq0.false))

pub returns : goal.returns
returns c =
    let t = c in
    let e = t in
    let b = e in
    runs_told b.args.g b.args.block.now b.requires e.if-g-eq-BITMAP.false (omega (arith, t.if-g-eq0.false))
    c.runs_ok.result c.runs_ok.ensures

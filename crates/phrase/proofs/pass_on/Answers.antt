-- `pass_on` stays where word i has passed b already, and else passes on from there.
use native.Mathlib.Omega.{arith}
use Rattle.querylaws.specs.Lists.{shape_in}
use Rattle.phrase.proofs.StandLaws.{passed_there, passed_on}
use Rattle.phrase.proofs.pass_on.Goals as goal

pub returns-then-b-w : goal.returns-then-b-w
returns-then-b-w c =
    passed_there _ _ _ _ _ c.requires.1 (rw c.walk_at-w.ensures at c.if-b-w.true)

pub pass_below-v-requires : goal.pass_below-v-requires
unfolding shape_in
pass_below-v-requires c =
    let r = c.requires.1 in
    rw (c.part_at.ensures, c.shape_in.ensures, c.walk_at-w.ensures) (r.passing, r.short)

pub put_walk-requires : goal.put_walk-requires
put_walk-requires c =
    let p = c.requires in
    (p.1.room, omega (arith, p.0.few))

pub returns : goal.returns
returns c =
    let below = c in
    let read = below in
    let start = read in
    let v =
    rw (read.part_at.ensures, read.shape_in.ensures, read.walk_at-w.ensures) at
    below.pass_below-v.ensures in
    rw c.put_walk.ensures
    (passed_on _ _ _ _ _ start.requires.1 start.requires.0.few below.pass_below-v.result v)

-- `ranks_at` passes the counts before the page's, and then its own.
use native.Mathlib.Omega.{arith}
use Rattle.querylaws.specs.Lists.{shape_in}
use Rattle.turning.proofs.WordLaws.{walked, ranks_told}
use Rattle.turning.proofs.ranks_at.Goals as goal

pub pass_to-w-requires : goal.pass_to-w-requires
unfolding shape_in
pass_to-w-requires c =
    let p = c.requires in
    rw (c.part_at-block.ensures, c.shape_in-g.ensures, c.walk_at.ensures)
    (p.0.on, p.1, omega (arith, p.2))

pub pass_one-v-requires : goal.pass_one-v-requires
unfolding shape_in
pass_one-v-requires c =
    let w = c.pass_to-w.ensures in
    (w.on, rw c.shape_in-g.ensures (omega (arith, c.requires.2, w.at)))

pub put_walk-requires : goal.put_walk-requires
put_walk-requires c =
    let p = c.requires.0 in
    (p.room, omega (arith, p.block.few))

pub returns : goal.returns
returns c =
    let p = c.requires.0 in
    let part = c.part_at-block.ensures in
    let shape = c.shape_in-g.ensures in
    let w = c.pass_to-w in
    let v = c.pass_one-v in
    let t =
    ranks_told _ _ _ _ w.result v.result (rw (part, shape) at w.ensures) (rw (part, shape) at v.ensures) in (
      t.0,
      rw c.put_walk.ensures
          (walked _ _ _ _ _ _ v.result p.block p.room (omega (arith, p.block.few)) t.1),
    )

pub overflow_mul-i-2 : goal.overflow_mul-i-2
overflow_mul-i-2 c = omega (arith, c.requires.0.block.few)

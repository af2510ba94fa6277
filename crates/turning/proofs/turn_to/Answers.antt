-- `turn_to` passes the positions before the page's: one past the last of them is the base.
use Prim.Native.Nat.{◌+◌, ◌*◌}
use native.Mathlib.Omega.{arith}
use lib.ListN.{length-set}
use Rattle.querylaws.specs.Lists.{shape_in}
use Rattle.turning.proofs.WordLaws.{walks_long, turned_on}
use Rattle.turning.proofs.turn_to.Lts
use Rattle.turning.proofs.turn_to.Reads
use Rattle.turning.proofs.turn_to.Tie
use Rattle.turning.proofs.turn_to.Goals as goal

abbrev After-slice_known-2-1 : Type 0
After-slice_known-2-1 = Lts.After-slice_known2 Tie.the-claims Reads.Pre Reads.Post

abbrev Start : Type 0
Start = Lts.Start Tie.the-claims Reads.Pre Reads.Post

abbrev start : After-slice_known-2-1 → Start
start c = c.before.before.before.before.before.before.before.before.before.before.before

pub pass_to-v-requires : goal.pass_to-v-requires
unfolding shape_in
pass_to-v-requires c =
    let p = c.requires in
    rw (c.part_at.ensures, c.shape_in.ensures, c.walk_at-w.ensures)
    (p.0.on, p.1, p.2)

pub bounds-words-i : goal.bounds-words-i
bounds-words-i c =
    let a = c.args in
    let p = c.requires.0 in
    rw c.put_walk.ensures
    (omega (arith, walks_long a.words.now (8 * a.i + 3) c.pass_to-v.result, p.room, p.block.few))

pub bounds-words-i-2 : goal.bounds-words-i-2
bounds-words-i-2 c =
    let a = c.args in
    let p = c.requires.0 in
    rw (length-set, c.put_walk.ensures)
    (omega (arith, walks_long a.words.now (8 * a.i + 3) c.pass_to-v.result, p.room, p.block.few))

pub returns : goal.returns
returns c =
    let p = c.requires.0 in
    let w = rw (c.part_at.ensures, c.shape_in.ensures) at c.pass_to-v.ensures in
    rw c.put_walk.ensures
    (turned_on _ _ _ _ _ c.pass_to-v.result p.block p.room w)

pub overflow_mul-words : goal.overflow_mul-words
overflow_mul-words c = omega (arith, c.requires.0.block.few)

pub overflow_add-words : goal.overflow_add-words
overflow_add-words c = omega (arith, c.requires.0.block.few)

pub offset_bounds-words-i : goal.offset_bounds-words-i
offset_bounds-words-i c = omega (arith, c.requires.0.block.few)

pub overflow_mul-words-2 : goal.overflow_mul-words-2
overflow_mul-words-2 c = omega (arith, c.requires.0.block.few)

pub overflow_add-words-2 : goal.overflow_add-words-2
overflow_add-words-2 c = omega (arith, c.requires.0.block.few)

pub offset_bounds-words-i-2 : goal.offset_bounds-words-i-2
offset_bounds-words-i-2 c = omega (arith, c.requires.0.block.few)

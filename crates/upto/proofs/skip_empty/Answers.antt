-- `skip_empty` passes words with no one left, of which none is the run's last.
use Prim.Native.Nat.{◌+◌, ◌-◌, ◌<◌}
use native.Mathlib.Omega.{arith}
use Rattle.rules.specs.Runs.{words_for}
use Rattle.walklaws.proofs.OpenLaws.{words_few, look_fits, open_run}
use Rattle.upto.proofs.OnesLaws.{ones_go_on, ones_next}
use Rattle.upto.proofs.skip_empty.Lts
use Rattle.upto.proofs.skip_empty.Reads
use Rattle.upto.proofs.skip_empty.Tie
use Rattle.upto.proofs.skip_empty.Goals as goal

abbrev In-loop-at : Type 0
In-loop-at = Lts.Then1 Tie.the-claims Reads.Pre Reads.Post goal.the-invariant-loop-at goal.the-decreases-loop-at

pub loop-at-init : goal.loop-at-init
loop-at-init c = c.requires.1

-- the next word lies in the run
goes : (c : In-loop-at)
    → c.loop-at.at.k + 1 < words_for c.args.g.bits
goes c =
    let b = c in
    let at = c.loop-at in
    ones_go_on b.args.block.now b.args.g b.requires.0 b.args.from.rank b.requires.2 at.at at.invariant
    c.loop-at-test.true

pub overflow_add-k : goal.overflow_add-k
overflow_add-k c =
    let b = c in
    let run = open_run b.args.block.now b.args.g b.requires.0 in
    let at = c.loop-at in
    omega (arith, words_few b.args.block.now b.args.g run at.at.k at.invariant.walking.within)

pub run_word-requires : goal.run_word-requires
run_word-requires c =
    let b = c in
    let run = open_run b.args.block.now b.args.g b.requires.0 in
    (look_fits b.args.block.now b.args.g run (c.loop-at.at.k + 1) 0
    (goes c.before.before) (omega arith)).0

pub loop-at-smaller : goal.loop-at-smaller
loop-at-smaller c = omega (arith, goes c.before.before.before)

pub loop-at-preserved : goal.loop-at-preserved
loop-at-preserved c =
    let b = c in
    let at = c.loop-at in
    ones_next b.args.block.now b.args.g b.requires.0 b.args.from.rank b.requires.2 at.at at.invariant
    c.loop-at-test.true c.run_word.result c.run_word.ensures

pub returns : goal.returns
returns c = (c.loop-at.invariant, omega arith)

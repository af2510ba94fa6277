-- `to_one` keeps the walk: the words that it passes have no one left, and each is one look.
use mathlib.Core.Path.{refl, ◌∙◌}
use Prim.Native.Nat.{◌+◌, ◌-◌, ◌<◌}
use native.Mathlib.Omega.{arith}
use Rattle.rules.specs.Runs.{words_for}
use Rattle.walklaws.proofs.WalkLaws.{walking_more, walking_next}
use Rattle.looks.proofs.to_one.Lts
use Rattle.looks.proofs.to_one.Reads
use Rattle.looks.proofs.to_one.Tie
use Rattle.looks.proofs.to_one.Goals as goal

abbrev In-loop-at : Type 0
In-loop-at = Lts.Then1 Tie.the-claims Reads.Pre Reads.Post goal.the-invariant-loop-at goal.the-decreases-loop-at

pub loop-at-init : goal.loop-at-init
loop-at-init c =
    let start = c in
    (start.requires.2, start.requires.1, refl, refl)

-- the next word is in the run
more : (c : In-loop-at) →
    let g = c.args.g in
    c.loop-at.at.k + 1 < words_for g.bits
more c =
    let at = c.loop-at in
    let start = c in
    walking_more start.args.s.now start.args.g start.requires.0 at.at at.invariant.1 c.loop-at-test.true
    at.invariant.0

pub next_word-at-requires : goal.next_word-at-requires
next_word-at-requires c =
    let start = c in
    (start.requires.0, more c.before.before, omega (arith, c.loop-at.invariant.3, start.requires.3))

pub loop-at-smaller : goal.loop-at-smaller
loop-at-smaller c = omega (arith, more c.before.before.before, c.next_word-at.ensures.1)

pub loop-at-preserved : goal.loop-at-preserved
loop-at-preserved c =
    let at = c.loop-at in
    let start = c in
    let n = c.next_word-at.ensures in (
      omega (arith, n.2, at.invariant.0),
      walking_next start.args.s.now start.args.g start.requires.0 at.at at.invariant.1 _
          c.loop-at-test.true n.1 (more c.before.before.before) n.0 n.2,
      n.2 ∙ at.invariant.2,
      omega (arith, at.invariant.3, n.1, n.3),
    )

pub returns : goal.returns
returns c =
    let at = c.loop-at in
    (record { at = at.invariant.1; some = omega (arith, c.loop-at-test.false); rank_kept = at.invariant.2 }, at.invariant.3)

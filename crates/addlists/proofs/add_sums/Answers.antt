-- `add_sums` lays the sums of the counts, less 1, stretch by stretch: those of the counts passed are laid.
use mathlib.Core.Bool.{true}
use mathlib.Core.Path.{◌≡◌, refl, sym, ap, ◌∙◌}
use mathlib.Core.List.{List}
use Prim.Native.Nat.{ℕ, ◌-◌, ◌≤◌}
use native.Mathlib.Omega.{arith}
use lib.ListN.{length, take, drop, length-take}
use Rattle.rules.specs.Limits.{limit}
use Rattle.rules.specs.List.{rising, size}
use Rattle.rules.specs.Term.{sums}
use Rattle.rules.specs.InPlace.{added}
use Rattle.termlaws.proofs.SumLaws.{length_sums}
use Rattle.filllaws.proofs.SideLaws.{fitting_kept}
use Rattle.filllaws.proofs.SideLaws.{end_is}
use Rattle.wordlaws.proofs.LayLaws.{sums_all}
use Rattle.wordlaws.proofs.LayLaws.{tally_first, tally_left, tally_next, tally_part, tally_behind}
use Rattle.addlaws.proofs.MoreLaws.{added_none, stretch_rises, stretch_added, sums_rise}
use Rattle.addlists.proofs.add_sums.Lts
use Rattle.addlists.proofs.add_sums.Reads
use Rattle.addlists.proofs.add_sums.Tie
use Rattle.addlists.proofs.add_sums.Goals as goal

abbrev Start : Type 0
Start = Lts.Start Tie.the-claims Reads.Pre Reads.Post goal.the-invariant-loop-at goal.the-decreases-loop-at

abbrev At-loop-at : Type 0
At-loop-at = Lts.At-loop Tie.the-claims Reads.Pre Reads.Post goal.the-invariant-loop-at goal.the-decreases-loop-at

abbrev After-next_sums-next : Type 0
After-next_sums-next = Lts.After-next_sums Tie.the-claims Reads.Pre Reads.Post goal.the-invariant-loop-at
    goal.the-decreases-loop-at

-- all elements
abbrev els : Start → List ℕ
els s = sums s.args.before s.args.counts.now

els_rise : (s : Start) → rising 0 s.args.g.u (els s) ≡ true
els_rise s = sums_rise s.args.before s.args.g.u s.args.counts.now s.requires.2 s.requires.3

fits : (s : Start) → size s.args.g.u s.args.g.n ≤ length s.args.block.now
fits s = omega (arith, end_is s.args.g s.args.block.now s.requires.0, s.requires.0.room)

-- the start, seen from the loop
abbrev entry : At-loop-at → Start
entry l = l.before.before.before

pub loop-at-init : goal.loop-at-init
loop-at-init c =
    let s = c in
    let a = s.args in (
      refl,
      tally_first a.before a.counts.now,
      sym (added_none a.g.u a.g.n a.from a.block.now (λ i. (c.slice_known-1.given i).fits)
          (fits s.before.before.before)),
    )

pub next_sums-next-requires : goal.next_sums-next-requires
next_sums-next-requires c =
    let l = c in
    let s = l in (
      l.loop-at.invariant.1.within,
      omega (arith, s.requires.1, s.requires.0.below, s.requires.0.within),
      s.requires.2,
      tally_left s.args.before s.args.counts.now l.loop-at.at l.loop-at.invariant.1 limit
          (omega (arith, s.requires.3, s.requires.0.within)),
    )

part_is : (c : After-next_sums-next)
    → let l = c in
    take (c.next_sums-next.result.done - l.loop-at.at.done - 0) c.next_sums-next.new.part
    ≡ take 256 (drop l.loop-at.at.done (els (entry l.before.before.before.before)))
part_is c =
    let l = c in
    let a = l.args in
    tally_part a.before a.counts.now l.loop-at.at l.loop-at.invariant.1 c.next_sums-next.result
    c.next_sums-next.new.part c.next_sums-next.ensures

pub add_all-requires : goal.add_all-requires
add_all-requires c =
    let k = c in
    let l = k in
    let i = l.loop-at.at.done in
    let s = entry l.before.before.before.before.before.before.before.before.before.before in (
      fitting_kept s.args.g s.args.block.now s.requires.0 l.loop-at.block l.loop-at.invariant.0,
      rw length-take (omega (arith, s.requires.1, k.next_sums-next.ensures.done)),
      stretch_rises s.args.g.u i 256 (els s) (take (k.next_sums-next.result.done - i - 0) k.next_sums-next.new.part)
          (els_rise s) (part_is k.before.before.before.before.before.before),
    )

pub loop-at-preserved : goal.loop-at-preserved
loop-at-preserved c =
    let y = c in
    let k = y in
    let n = k.next_sums-next in
    let l = k in
    let t = l.loop-at.at in
    let h = l.loop-at.invariant.1 in
    let s = entry l.before.before.before.before.before.before.before.before.before.before.before.before.before in
    let a = s.args in
    let cs = a.counts.now in (
      omega arith,
      tally_next a.before cs t h n.result n.new.part n.ensures,
      y.add_all.ensures
          ∙ stretch_added a.g.u t.done 256 (els s) (take (n.result.done - t.done - 0) n.new.part)
          (els_rise s) (part_is k.before.before.before.before.before.before.before.before.before) a.g.n a.from
          a.block.now l.loop-at.block
          (omega (arith, h.within, length_sums a.before cs)) (fits s) l.loop-at.invariant.2
          ∙ ap (λ (xs : List ℕ). added a.g.u a.g.n a.from xs a.block.now)
          (tally_behind a.before cs t h n.result n.new.part n.ensures),
    )

pub returns : goal.returns
returns c =
    let l = c in
    let a = l.args in
    l.loop-at.invariant.2
    ∙ ap (λ (xs : List ℕ). added a.g.u a.g.n a.from xs a.block.now)
    (sums_all a.before a.counts.now l.loop-at.at.done (omega arith))

pub overflow_sub-k : goal.overflow_sub-k
overflow_sub-k c = omega (arith, c.next_sums-next.ensures.done)

pub overflow_add-from : goal.overflow_add-from
overflow_add-from c = omega arith

pub slice_bounds-add_all-count : goal.slice_bounds-add_all-count
slice_bounds-add_all-count c = omega arith

pub slice_bounds-add_all-start : goal.slice_bounds-add_all-start
slice_bounds-add_all-start c = omega arith

pub slice_bounds-add_all-end : goal.slice_bounds-add_all-end
slice_bounds-add_all-end c = omega (arith, c.next_sums-next.ensures.done)

pub loop-at-smaller : goal.loop-at-smaller
loop-at-smaller c = omega (
  arith,
  c.next_sums-next.ensures.done,
)

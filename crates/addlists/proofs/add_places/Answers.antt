-- `add_places` lays the elements stretch by stretch: those of the positions passed are laid.
use mathlib.Core.Path.{◌≡◌, refl, sym, ap, ◌∙◌}
use mathlib.Core.List.{List}
use Prim.Native.Nat.{ℕ, ◌+◌, ◌-◌, ◌≤◌}
use native.Mathlib.Omega.{arith}
use lib.ListN.{length, take, drop, length-take}
use lib.Seq.{take_all}
use Rattle.rules.specs.List.{size}
use Rattle.rules.specs.Term.{placed}
use Rattle.rules.specs.InPlace.{added}
use Rattle.termlaws.proofs.PlaceLaws.{length_placed}
use Rattle.filllaws.proofs.SideLaws.{fitting_kept}
use Rattle.filllaws.proofs.SideLaws.{end_is}
use Rattle.wordlaws.specs.Stretch.{Placing}
use Rattle.addlaws.proofs.MoreLaws.{added_none, stretch_rises, stretch_added, placed_rise}
use Rattle.addlists.proofs.add_places.Lts
use Rattle.addlists.proofs.add_places.Reads
use Rattle.addlists.proofs.add_places.Tie
use Rattle.addlists.proofs.add_places.Goals as goal

abbrev Start : Type 0
Start = Lts.Start Tie.the-claims Reads.Pre Reads.Post goal.the-invariant-loop-at goal.the-decreases-loop-at

abbrev At-loop-at : Type 0
At-loop-at = Lts.At-loop Tie.the-claims Reads.Pre Reads.Post goal.the-invariant-loop-at goal.the-decreases-loop-at

abbrev After-next_places-next : Type 0
After-next_places-next = Lts.After-next_places Tie.the-claims Reads.Pre Reads.Post goal.the-invariant-loop-at
    goal.the-decreases-loop-at

-- all elements
abbrev els : Start → List ℕ
els s = placed s.args.start s.args.counts.now s.args.positions.now

placing : (s : Start)
    → Placing s.args.start s.args.g.u s.args.counts.now s.args.positions.now
placing s =
    let a = s.args in
    record {
      within = s.requires.0.within;
      summed = s.requires.2;
      counted = s.requires.3;
      rises = placed_rise a.start a.g.u a.counts.now a.positions.now s.requires.4 s.requires.5;
    }

els_long : (s : Start) → length (els s) ≡ length s.args.positions.now
els_long s = length_placed s.args.start s.args.counts.now s.args.positions.now s.requires.2

fits : (s : Start) → size s.args.g.u s.args.g.n ≤ length s.args.block.now
fits s = omega (arith, end_is s.args.g s.args.block.now s.requires.0, s.requires.0.room)

-- the start, seen from the loop
abbrev entry : At-loop-at → Start
entry l = l.before.before.before.before.before

pub loop-at-init : goal.loop-at-init
loop-at-init c =
    let k = c in
    let s = k.before.before.before.before.before in
    let a = s.args in
    let e = c.first_spot-at.ensures in (
      refl,
      e.1 a.g.u a.positions.now (placing s),
      rw e.0 (sym (added_none a.g.u a.g.n a.from a.block.now (λ i. (k.slice_known-1.given i).fits)
          (fits s))),
    )

pub next_places-next-requires : goal.next_places-next-requires
next_places-next-requires c =
    let l = c in
    let a = l.args in
    (refl, omega arith, record { s = a.start; U = a.g.u; at = l.loop-at.invariant.1 })

-- the loop, seen from where a stretch's elements are put, and how many there are
abbrev turn : After-next_places-next → At-loop-at
turn c = c.before.before.before.before

abbrev count : After-next_places-next → ℕ
count c = c.next_places-next.result.done - c.loop-at.at.done

abbrev laid : After-next_places-next → List ℕ
laid c = take (count c - 0) c.next_places-next.new.part

laid_is : (c : After-next_places-next)
    → laid c ≡ take (count c) (drop c.loop-at.at.done (els (entry c.before.before.before.before)))
laid_is c =
    let l = c in
    let a = l.args in
    let e : count c - 0 ≡ count c = omega arith in
    rw e (c.next_places-next.ensures.holds a.start a.g.u l.loop-at.invariant.1)

pub add_all-requires : goal.add_all-requires
add_all-requires c =
    let n = c in
    let l = n in
    let s = entry l.before.before.before.before.before.before.before.before.before.before in (
      fitting_kept s.args.g s.args.block.now s.requires.0 l.loop-at.block l.loop-at.invariant.0,
      rw length-take (omega (arith, s.requires.1, n.next_places-next.ensures.done)),
      stretch_rises s.args.g.u l.loop-at.at.done (count n.before.before.before.before.before.before) (els s)
          (laid n.before.before.before.before.before.before) (placing s).rises
          (laid_is n.before.before.before.before.before.before),
    )

pub loop-at-preserved : goal.loop-at-preserved
loop-at-preserved c =
    let y = c in
    let n = y in
    let l = n in
    let s = entry l.before.before.before.before.before.before.before.before.before.before.before.before.before in
    let a = s.args in
    let i = l.loop-at.at.done in
    let e : i + count n.before.before.before.before.before.before.before.before.before ≡
    n.next_places-next.result.done = omega (arith, n.next_places-next.ensures.done) in (
      omega arith,
      n.next_places-next.ensures.spot a.start a.g.u l.loop-at.invariant.1,
      y.add_all.ensures
          ∙ stretch_added a.g.u i (count n.before.before.before.before.before.before.before.before.before)
          (els s) (laid n.before.before.before.before.before.before.before.before.before) (placing s).rises
          (laid_is n.before.before.before.before.before.before.before.before.before) a.g.n a.from
          a.block.now l.loop-at.block (omega (arith, els_long s)) (fits s) l.loop-at.invariant.2
          ∙ ap (λ (j : ℕ). added a.g.u a.g.n a.from (take j (els s)) a.block.now) e,
    )

pub returns : goal.returns
returns c =
    let l = c in
    let s = entry l.before.before.before in
    let a = s.args in
    l.loop-at.invariant.2
    ∙ ap (λ (xs : List ℕ). added a.g.u a.g.n a.from xs a.block.now)
    (take_all l.loop-at.at.done (els s) (omega (arith, els_long s)))

pub overflow_sub-k : goal.overflow_sub-k
overflow_sub-k c = omega (arith, c.next_places-next.ensures.done)

pub overflow_add-from : goal.overflow_add-from
overflow_add-from c = omega (arith, c.requires)

pub slice_bounds-add_all-count : goal.slice_bounds-add_all-count
slice_bounds-add_all-count c = omega arith

pub slice_bounds-add_all-start : goal.slice_bounds-add_all-start
slice_bounds-add_all-start c = omega arith

pub slice_bounds-add_all-end : goal.slice_bounds-add_all-end
slice_bounds-add_all-end c = let p = c in
    omega (arith, p.next_places-next.ensures.done)

pub loop-at-smaller : goal.loop-at-smaller
loop-at-smaller c = let y = c in
    omega (arith, y.next_places-next.ensures.done)

-- `fill_places` lays the elements stretch by stretch: those of the positions passed are laid.
use mathlib.Core.Path.{◌≡◌, refl}
use mathlib.Core.List.{List}
use Prim.Native.Nat.{ℕ, ◌-◌}
use native.Mathlib.Omega.{arith}
use lib.ListN.{take}
use lib.Seq.{take_all}
use Rattle.rules.specs.Term.{placed}
use Rattle.wordlaws.proofs.LayLaws.{stretch_follows, next_laid}
use Rattle.wordlaws.proofs.StretchLaws.{placing, places_long}
use Rattle.fillword.proofs.fill_places.Goals as goal

pub begin-f-requires : goal.begin-f-requires
begin-f-requires c = c.requires.fitting

pub loop-at-init : goal.loop-at-init
loop-at-init c =
    let a = c.args in
    let e = c.first_spot-at.ensures in (
      refl,
      e.1 a.g.u a.positions.now (placing a.g a.counts.now a.positions.now a.room.now c.requires),
      λ before p. rw e.0 p,
    )

pub next_places-next-requires : goal.next_places-next-requires
next_places-next-requires c = (refl, omega arith, record { s = 0; U = c.args.g.u; at = c.loop-at.invariant.1 })

pub lay-f-requires : goal.lay-f-requires
lay-f-requires c =
    let a = c.args in
    let els = placed 0 a.counts.now a.positions.now in
    let l = c.loop-at in
    let i = l.at.done in
    let n = c.next_places-next in
    let k : ℕ = n.result.done - i in
    let e : k - 0 ≡ k = omega arith in
    record {
      xs = take i els;
      before = a.room.now;
      partly = l.invariant.2 a.room.now c.begin-f.ensures;
      follows = rw (e, n.ensures.holds 0 a.g.u l.invariant.1)
          (stretch_follows a.g els (places_long a.g a.counts.now a.positions.now a.room.now c.requires) c.requires.rises i k);
    }

pub loop-at-preserved : goal.loop-at-preserved
loop-at-preserved c =
    let a = c.args in
    let els = placed 0 a.counts.now a.positions.now in
    let l = c.loop-at in
    let i = l.at.done in
    let n = c.next_places-next in
    let k : ℕ = n.result.done - i in
    let e : k - 0 ≡ k = omega arith in (
      omega arith,
      n.ensures.spot 0 a.g.u l.invariant.1,
      λ before q.
          next_laid a.g els (places_long a.g a.counts.now a.positions.now a.room.now c.requires) c.requires.rises i k
          n.result.done (omega (arith, n.ensures.done)) (take (k - 0) n.new.part)
          (rw e (n.ensures.holds 0 a.g.u l.invariant.1))
          l.f c.lay-f.result l.room c.lay-f.new.room before c.lay-f.ensures (l.invariant.2 before q),
    )

pub finish-requires : goal.finish-requires
finish-requires c =
    let a = c.args in
    let els : List ℕ = placed 0 a.counts.now a.positions.now in
    let l = c.loop-at in
    let n = places_long a.g a.counts.now a.positions.now a.room.now c.requires in
    record {
      xs = els;
      before = a.room.now;
      partly = rw (take_all l.at.done els (omega (arith, n, c.requires.count))) at (l.invariant.2 a.room.now c.begin-f.ensures);
      all = n;
    }

pub returns : goal.returns
returns c =
    let a = c.args in
    let els : List ℕ = placed 0 a.counts.now a.positions.now in
    let l = c.loop-at in
    let n = places_long a.g a.counts.now a.positions.now a.room.now c.requires in
    c.finish.ensures els a.room.now
    (rw (take_all l.at.done els (omega (arith, n, c.requires.count))) at (l.invariant.2 a.room.now c.begin-f.ensures)) n

pub overflow_sub-k : goal.overflow_sub-k
overflow_sub-k c = omega (arith, c.next_places-next.ensures.done)

pub slice_bounds-lay-end : goal.slice_bounds-lay-end
slice_bounds-lay-end c = omega (arith, c.next_places-next.ensures.done)

pub loop-at-smaller : goal.loop-at-smaller
loop-at-smaller c = omega (arith, c.next_places-next.ensures.done)

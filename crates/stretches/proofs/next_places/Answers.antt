-- `next_places` marks the ends of the pages in a stretch, and puts the elements in their place.
use mathlib.Core.Path.{◌≡◌}
use Prim.Native.Nat.{◌+◌, ◌-◌, min}
use native.Mathlib.Omega.{arith}
use lib.ListN.{length, length-take}
use Rattle.wordlaws.proofs.StretchLaws.{spot_page, stretch_bounded, stretch_placed, spot_next}
use Rattle.stretches.proofs.next_places.Goals as goal

pub mark-turn-requires : goal.mark-turn-requires
mark-turn-requires c =
    let a = c.args in
    let h = c.requires.2 in (
      c.requires.0,
      spot_page h.s h.U a.counts.now a.positions.now a.at h.at c.requires.1,
      h.at.some,
      h.at.small,
      h.at.placing.counted,
    )

pub put_places-base-requires : goal.put_places-base-requires
put_places-base-requires c =
    let k = c.min-k.result in
    let a = c.args in
    let h = c.requires.2 in
    let w : k ≡ min 256 (length a.positions.now - a.at.done) = omega arith in
    let e : a.at.done + k - a.at.done ≡ k = omega arith in (
      rw (e, length-take) (omega arith),
      rw e (stretch_bounded h.s h.U a.counts.now a.positions.now a.at h.at c.requires.1 k w c.mark-turn.result
          c.mark-turn.new.part c.mark-turn.ensures),
    )

pub returns : goal.returns
returns c =
    let k = c.min-k.result in
    let a = c.args in
    let m = c.mark-turn in
    let p = c.put_places-base in
    let w : k ≡ min 256 (length a.positions.now - a.at.done) = omega arith in
    let e : a.at.done + k - a.at.done ≡ k = omega arith in
    record {
      done = omega arith;
      spot = λ t U h. spot_next t U a.counts.now a.positions.now a.at h c.requires.1 k w m.result m.new.part m.ensures
          p.result (rw e at p.ensures.0);
      holds = λ t U h. rw e (stretch_placed t U a.counts.now a.positions.now a.at h c.requires.1 k w m.result m.new.part
          m.ensures p.new.part p.array_long (rw e at p.ensures.1));
    }

-- `fill_map` writes the header, and then four words and their number at a time: those up to number q stand in the room,
-- and the elements below bit 256 * q are passed.
use mathlib.Core.Path.{◌≡◌, refl, subst}
use mathlib.Core.List.{List, [], ◌∷◌}
use Prim.Native.Nat.{ℕ, ◌+◌, ◌*◌, ◌/◌, ◌^◌, ◌≤◌, ◌<◌}
use native.Mathlib.Omega.{arith}
use lib.ListN.{length}
use lib.Seq.{sets}
use Rattle.rules.specs.Limits.{map_version}
use Rattle.rules.specs.Bytes.{be}
use Rattle.rules.specs.List.{bitmap}
use Rattle.shape.specs.declared.Shape.{Shape}
use Rattle.filllaws.specs.Filling.{FramedAs}
use Rattle.filllaws.proofs.SideLaws.{header_fits}
use Rattle.filllaws.proofs.PartLaws.{framed_none}
use Rattle.fillmap.specs.Mapping.{Mapped}
use Rattle.fillmap.proofs.PartedLaws.{rising_climbing, parted_none}
use Rattle.fillmap.proofs.MappedLaws.{Spread, spread, mapped_none, mapped_more, mapped_all}
use Rattle.fillmap.proofs.fill_map.Lts
use Rattle.fillmap.proofs.fill_map.Reads
use Rattle.fillmap.proofs.fill_map.Tie
use Rattle.fillmap.proofs.fill_map.Goals as goal

abbrev At-loop-q : Type 0
At-loop-q = Lts.At-loop Tie.the-claims Reads.Pre Reads.Post goal.the-invariant-loop-q goal.the-decreases-loop-q

abbrev Start : Type 0
Start = Lts.Start Tie.the-claims Reads.Pre Reads.Post goal.the-invariant-loop-q goal.the-decreases-loop-q

-- the start, seen from the loop
abbrev entry : At-loop-q → Start
entry l = l.before.before.before.before.before.before.before.before

pub put_header-requires : goal.put_header-requires
put_header-requires c =
    let s = c in
    omega (arith, header_fits s.args.g s.args.room.now s.requires.0, s.requires.0.room)

-- the header stands
framed : (l : At-loop-q)
    → let a = l.args in
    FramedAs bitmap a.g a.room.now l.put_header.new.room
framed l =
    let s = l in
    let a = s.args in
    let g = a.g in
    let h = l in
    let s1 : List ℕ = sets a.room.now 0 (be 4 g.end) in
    let s2 : List ℕ = sets s1 4 (map_version ∷ []) in
    let s3 : List ℕ = sets s2 5 (be 4 g.u) in
    framed_none g a.room.now s.requires.0 s1 s2 s3 h.put_header.new.room refl refl refl
    (h.put_header.ensures bitmap s.requires.0.shape)

-- where the parts lie, and that the room holds them
record Placed (g : Shape) (n next room : ℕ) : Type 0 where
  spread : Spread g
  fits : g.end ≤ room
  few : next ≤ 16777216

placed : (l : At-loop-q)
    → let a = l.args in
    Placed a.g (length a.list.now) l.loop-q.next (length l.loop-q.room)
placed l =
    let s = l in
    let a = s.args in
    let f = s.requires.0 in
    record {
      spread = spread a.g a.room.now f;
      fits = omega (arith, f.room, (framed l).long, l.loop-q.invariant.2);
      few = omega (arith, l.loop-q.invariant.3.within, s.requires.1, f.below, f.within);
    }

pub loop-q-init : goal.loop-q-init
loop-q-init c =
    let a = c.args in (
      omega arith,
      refl,
      refl,
      parted_none a.list.now,
      λ before f. mapped_none a.g a.list.now before c.put_header.new.room f,
    )

pub put_maps-next-requires : goal.put_maps-next-requires
put_maps-next-requires c =
    let l = c in
    let s = l in
    let p = placed l.before.before.before in
    let o = p.spread in (
      rising_climbing s.args.g.u s.args.list.now s.requires.2,
      l.loop-q.invariant.3,
      omega arith,
      omega arith,
      omega arith,
    )

pub write_u32-requires : goal.write_u32-requires
write_u32-requires c =
    let m = c in
    let l = m in
    let p = placed l.before.before.before.before.before.before.before in
    let o = p.spread in
    omega (arith, m.put_maps-next.ensures.1.long)

pub loop-q-preserved : goal.loop-q-preserved
loop-q-preserved c =
    let w = c in
    let m = w in
    let l = m in
    let s = l in
    let a = s.args in
    let q = l.loop-q.q in
    let d = m.put_maps-next.ensures in
    let o = placed l.before.before.before.before.before.before.before.before.before.before in
    let b = o.spread in
    let n : m.put_maps-next.result < 2 ^ 32 = omega (arith, d.0.within, s.requires.1, s.requires.0.below, b.within) in
    let e : 64 * (4 * q + 4) ≡ 64 * (4 * (q + 1)) = omega arith in (
      omega arith,
      refl,
      omega (arith, d.1.long, l.loop-q.invariant.2),
      rw e at d.0,
      λ before f. mapped_more a.g a.list.now before l.loop-q.room q (l.loop-q.invariant.4 before f) s.requires.2
          (omega arith) m.put_maps-next.result m.put_maps-next.new.room w.write_u32.new.d d.1 d.0 n
          w.write_u32.ensures,
    )

pub put_maps-requires : goal.put_maps-requires
put_maps-requires c =
    let l = c in
    let s = l in
    let p = placed l.before.before.before.before.before in
    let o = p.spread in
    let e : l.loop-q.q ≡ s.args.g.u / 256 = omega arith in (
      rising_climbing s.args.g.u s.args.list.now s.requires.2,
      rw e at l.loop-q.invariant.3,
      omega arith,
      omega arith,
      omega arith,
    )

pub shape_of-room : goal.shape_of-room
shape_of-room c =
    let m = c in
    let l = m in
    omega (arith, m.put_maps.ensures.1.long, l.loop-q.invariant.2, (framed l.before.before.before.before.before.before.before.before).long)

pub returns : goal.returns
returns c =
    let m = c in
    let l = m in
    let s = l in
    let a = s.args in
    let e : l.loop-q.q ≡ a.g.u / 256 = omega arith in
    mapped_all a.g a.list.now a.room.now l.loop-q.room m.put_maps.new.room
    (subst (λ q. Mapped a.g a.list.now a.room.now l.loop-q.room q) e
    (l.loop-q.invariant.4 a.room.now (framed l.before.before.before.before.before.before.before.before)))
    s.requires.1 (λ i. (c.slice_known-3-1.given i).fits) m.put_maps.ensures.1

pub overflow_mul-q : goal.overflow_mul-q
overflow_mul-q c = let p = placed c.before.before.before in let o = p.spread in omega arith

pub overflow_mul-q-in-loop-q : goal.overflow_mul-q-in-loop-q
overflow_mul-q-in-loop-q c = let p = placed c.before.before.before in let o = p.spread in omega arith

pub overflow_add-q : goal.overflow_add-q
overflow_add-q c = let p = placed c.before.before.before in let o = p.spread in omega arith

pub overflow_mul-q-in-loop-q-2 : goal.overflow_mul-q-in-loop-q-2
overflow_mul-q-in-loop-q-2 c = let p = placed c.before.before.before.before.before.before.before in let o = p.spread in omega arith

pub overflow_add-q-in-loop-q : goal.overflow_add-q-in-loop-q
overflow_add-q-in-loop-q c = let p = placed c.before.before.before.before.before.before.before in let o = p.spread in omega arith

pub overflow_step-q : goal.overflow_step-q
overflow_step-q c = omega arith

pub loop-q-smaller : goal.loop-q-smaller
loop-q-smaller c = omega arith

pub overflow_mul-g : goal.overflow_mul-g
overflow_mul-g c = let p = placed c.before.before.before.before in let o = p.spread in omega arith

pub overflow_sub-g : goal.overflow_sub-g
overflow_sub-g c = let p = placed c.before.before.before.before.before in let o = p.spread in omega arith

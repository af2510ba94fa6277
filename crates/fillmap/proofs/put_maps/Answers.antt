-- `put_maps` stores the words one after the other: those up to k stand in the room, and the elements below bit 64 * k
-- are passed.
use mathlib.Core.Path.{◌≡◌, refl, ap, ◌∙◌}
use Prim.Native.Nat.{ℕ, ◌+◌, ◌*◌, ◌/◌, ◌^◌}
use native.Mathlib.Nat.{mod-lt}
use native.Mathlib.Omega.{arith}
use lib.Pow.{pow_pos}
use lib.Seq.{sets}
use Rattle.rules.specs.Bytes.{be}
use Rattle.rules.specs.List.{map_of}
use Rattle.filllaws.proofs.StoreLaws.{stored_none, stored_more}
use Rattle.fillmap.specs.Mapping.{word_of}
use Rattle.fillmap.proofs.put_maps.Goals as goal

pub loop-k-init : goal.loop-k-init
loop-k-init c =
    let s = c in
    let a = s.args in
    (omega arith, s.requires.2, refl, s.requires.1, stored_none 8 a.at (word_of a.list.now) a.first a.room.now)

pub gather-p-requires : goal.gather-p-requires
gather-p-requires c =
    let l = c in
    let s = l in
    (s.requires.0, l.loop-k.invariant.3, omega arith)

pub loop-k-preserved : goal.loop-k-preserved
loop-k-preserved c =
    let w = c in
    let p = w in
    let l = p in
    let a = l.args in
    let k = l.loop-k.k in
    let v : ℕ → ℕ = word_of a.list.now in
    let st = stored_more 8 a.at v a.first k a.room.now l.loop-k.room l.loop-k.invariant.4 l.loop-k.invariant.0
    (omega arith) (mod-lt (map_of a.list.now / 2 ^ (64 * k)) (pow_pos 64)) w.write_u64.new.d
    (w.write_u64.ensures ∙ ap (λ (n : ℕ). sets l.loop-k.room (a.at + 8 * k) (be 8 n)) p.gather-p.ensures.0) in
    (omega arith, omega arith, st.long, p.gather-p.ensures.1, st)

pub returns : goal.returns
returns c =
    let l = c in
    let a = l.args in
    let e : l.loop-k.k ≡ a.last = omega arith in
    (rw e at l.loop-k.invariant.3, rw e at l.loop-k.invariant.4)

pub overflow_mul-k : goal.overflow_mul-k
overflow_mul-k c = omega arith

pub overflow_add-at : goal.overflow_add-at
overflow_add-at c = omega arith

pub write_u64-requires : goal.write_u64-requires
write_u64-requires c = omega arith

pub overflow_step-k : goal.overflow_step-k
overflow_step-k c = omega arith

pub loop-k-smaller : goal.loop-k-smaller
loop-k-smaller c = omega arith

pub shape_of-room : goal.shape_of-room
shape_of-room c = omega arith

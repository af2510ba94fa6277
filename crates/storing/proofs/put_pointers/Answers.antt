-- `put_pointers` writes the pointers: those up to number q stand in the room.
use mathlib.Core.Path.{◌≡◌, refl, subst}
use Prim.Native.Nat.{◌+◌, ◌-◌, ◌/◌}
use native.Mathlib.Omega.{arith}
use Rattle.filllaws.specs.Filling.{Stored}
use Rattle.filllaws.proofs.StoreLaws.{stored_none, stored_more}
use Rattle.storing.proofs.put_pointers.Invariants.{pointer_at}
use Rattle.storing.proofs.put_pointers.Goals as goal

pub loop-q-init : goal.loop-q-init
loop-q-init c =
    let a = c.args in
    (omega arith, omega arith, refl, refl, stored_none 4 9 (pointer_at a.count) a.next a.room.now)

pub loop-q-preserved : goal.loop-q-preserved
loop-q-preserved c =
    let l = c.before.before.before.before.before.before in
    let a = l.args in
    let t = stored_more 4 9 (pointer_at a.count) a.next l.loop-q.q a.room.now
    l.loop-q.room l.loop-q.invariant.4 (omega arith) (omega arith) (omega arith) c.write_u32.new.d
    c.write_u32.ensures in
    (omega arith, omega arith, omega arith, t.long, t)

pub returns : goal.returns
returns c =
    let l = c.before in
    let a = l.args in
    let e : l.loop-q.q ≡ a.high / 256 + 1 = omega arith in (
      l.loop-q.invariant.2,
      subst (λ n. Stored 4 9 (pointer_at a.count) a.next n a.room.now l.loop-q.room) e l.loop-q.invariant.4,
    )

pub overflow_add-end : goal.overflow_add-end
overflow_add-end c = omega arith

pub overflow_mul-q : goal.overflow_mul-q
overflow_mul-q c = omega arith

pub overflow_add-q : goal.overflow_add-q
overflow_add-q c = omega arith

pub overflow_mul-q-in-loop-q : goal.overflow_mul-q-in-loop-q
overflow_mul-q-in-loop-q c = omega arith

pub overflow_add-q-in-loop-q : goal.overflow_add-q-in-loop-q
overflow_add-q-in-loop-q c = omega arith

pub write_u32-requires : goal.write_u32-requires
write_u32-requires c = omega arith

pub overflow_step-q : goal.overflow_step-q
overflow_step-q c = omega arith

pub loop-q-smaller : goal.loop-q-smaller
loop-q-smaller c = omega arith

pub shape_of-room : goal.shape_of-room
shape_of-room c = omega arith

-- `start` gives the larger of the cursor's bit and the pointer: which it is shows in the cursor's high part.
use mathlib.Core.Path.{refl}
use Prim.Native.Nat.{◌-◌, ◌^◌, ◌<◌}
use native.Mathlib.Nat.{div-le_self}
use native.Mathlib.Omega.{arith}
use Rattle.readlaws.proofs.ReadLaws.{open_reads}
use Rattle.walklaws.proofs.OpenLaws.{open_within}
use Rattle.walklaws.proofs.CursorLaws.{own_of}
use Rattle.walklaws.proofs.StartLaws.{pointer_inside, started_jump, started_here}
use Rattle.starting.proofs.start.Lts
use Rattle.starting.proofs.start.Reads
use Rattle.starting.proofs.start.Tie
use Rattle.starting.proofs.start.Goals as goal

abbrev After-high_of-high : Type 0
After-high_of-high = Lts.After-high_of Tie.the-claims Reads.Pre Reads.Post

pub high_of-high-requires : goal.high_of-high-requires
high_of-high-requires c =
    let start = c in
    let r = open_reads start.args.s.now start.args.g start.requires.0 in
    omega arith

pub overflow_shr-h : goal.overflow_shr-h
overflow_shr-h c =
    let start = c in
    let r = open_reads start.args.s.now start.args.g start.requires.0 in
    omega arith

-- the high part is no larger than the mark
high_small : (c : After-high_of-high) → c.high_of-high.result < 2 ^ 32
high_small c =
    let start = c in
    let a = start.args in
    let m = start.requires.1 in
    omega (
      arith,
      c.high_of-high.ensures,
      div-le_self (a.c.mark - 1) (2 ^ a.g.w),
      m.ahead,
      m.below,
      open_within a.s.now a.g start.requires.0,
    )

pub overflow_mul-high : goal.overflow_mul-high
overflow_mul-high c = record { fits = omega (arith, high_small c.before.before) }

pub overflow_add-high : goal.overflow_add-high
overflow_add-high c = record { fits = omega (arith, high_small c.before.before) }

pub pointer_at-requires : goal.pointer_at-requires
pointer_at-requires c =
    let start = c in
    let a = start.args in
    (start.requires.0, pointer_inside a.s.now a.g start.requires.0 a.c a.b start.requires.1)

pub returns-then-high-h : goal.returns-then-high-h
returns-then-high-h c =
    let start = c in
    let a = start.args in
    started_jump a.s.now a.g start.requires.0 a.c a.b start.requires.1 _ c.pointer_at.ensures refl refl
    (omega (arith, c.high_of-high.ensures))

pub returns : goal.returns
returns c =
    let start = c in
    let a = start.args in
    let e = c.high_of-high.ensures in
    let own = own_of a.c.mark in
    started_here a.s.now a.g start.requires.0 a.c a.b start.requires.1 _ refl e own.few own.marked
    (omega (arith, e))

-- `lay_near` lays elements one by one:
-- those from number `from` up to i follow what was laid before, and the count has grown by as many.
use mathlib.Core.Path.{◌≡◌, refl}
use mathlib.Core.List.{◌++◌, append-nil}
use Prim.Native.Nat.{◌+◌, ◌-◌, ◌≤◌, ◌<◌}
use native.Mathlib.Omega.{arith}
use lib.ListN.{length, get_or, take, drop}
use Rattle.filllaws.specs.Filling.{Ready, Laid}
use Rattle.filllaws.proofs.PartLaws.{ready_step, count_more}
use Rattle.filllaws.proofs.RiseLaws.{left_next, left_more}
use Rattle.laying.proofs.lay_near.Lts
use Rattle.laying.proofs.lay_near.Reads
use Rattle.laying.proofs.lay_near.Tie
use Rattle.laying.proofs.lay_near.Goals as goal

abbrev At-loop-i : Type 0
At-loop-i = Lts.At-loop Tie.the-claims Reads.Pre Reads.Post goal.the-invariant-loop-i goal.the-decreases-loop-i

abbrev Start : Type 0
Start = Lts.Start Tie.the-claims Reads.Pre Reads.Post goal.the-invariant-loop-i goal.the-decreases-loop-i

abbrev In-loop-i : Type 0
In-loop-i = Lts.In-loop Tie.the-claims Reads.Pre Reads.Post goal.the-invariant-loop-i goal.the-decreases-loop-i

-- the start, seen from the loop
abbrev entry : At-loop-i → Start
entry l = l.before.before.before

pub loop-i-init : goal.loop-i-init
loop-i-init c =
    let s = c in
    let a = s.args in
    let e : a.from - a.from ≡ 0 = omega arith in
    (omega arith, s.requires.0, refl, refl, omega arith, λ xs before p f. rw (e, append-nil) p)

-- the next element may follow
ready : (c : In-loop-i)
    → let l = c in
    let a = l.args in
    Ready a.g l.loop-i.f (get_or a.list.now l.loop-i.i 0) l.loop-i.room
ready c =
    let l = c in
    let s = l in
    let a = s.args in
    let o = s.requires.1 in
    record {
      xs = o.xs ++ take (l.loop-i.i - a.from) (drop a.from a.list.now);
      before = o.before;
      partly = l.loop-i.invariant.5 o.xs o.before o.partly o.follows;
      next = left_next a.g o.xs a.list.now a.from l.loop-i.i o.follows l.loop-i.invariant.0 (omega arith);
    }

pub overflow_cast-x : goal.overflow_cast-x
overflow_cast-x c = omega (arith, c.shared_slice_known-in-loop-i-1.given c.loop-i.i)

pub overflow_shr-x : goal.overflow_shr-x
overflow_shr-x c = let s = ready_step (ready c.before.before.before) in omega arith

pub overflow_add-x : goal.overflow_add-x
overflow_add-x c = let s = ready_step (ready c.before.before.before.before) in omega arith

-- what is laid where the function ends
all_laid : (l : At-loop-i)
    → let a = l.args in
    (a.start.count ≤ l.loop-i.f.count) × (l.loop-i.f.count ≤ a.start.count + (length a.list.now - a.from))
    × Laid a.g a.start (drop a.from a.list.now) (l.loop-i.f.count - a.start.count) l.loop-i.f
    a.room.now l.loop-i.room
all_laid l =
    let a = l.args in
    let e : l.loop-i.f.count - a.start.count ≡ l.loop-i.i - a.from = omega arith in
    (omega arith, omega arith, rw e l.loop-i.invariant.5)

pub put_near-f-requires : goal.put_near-f-requires
put_near-f-requires c = (ready c.before.before.before.before.before.before.before, c.if-f-x.false)

pub overflow_step-i : goal.overflow_step-i
overflow_step-i c =
    let t = c in
    omega (arith, t.loop-i-test.true)

pub loop-i-preserved : goal.loop-i-preserved
loop-i-preserved c =
    let t = c in
    let l = t in
    let a = l.args in
    let k = c.put_near-f in
    let i = l.loop-i.i in
    let h : i < length a.list.now = omega arith in (
      omega arith,
      omega arith,
      omega arith,
      omega arith,
      omega (arith, count_more (ready t.before.before.before.before.before.before.before.before.before.before) k.ensures),
      λ xs before p f.
          rw (left_more a.g xs a.list.now a.from i f l.loop-i.invariant.0 h)
          (k.ensures (xs ++ take (i - a.from) (drop a.from a.list.now)) before
          (l.loop-i.invariant.5 xs before p f) (left_next a.g xs a.list.now a.from i f l.loop-i.invariant.0 h)),
    )

pub returns-then-f-x : goal.returns-then-f-x
returns-then-f-x c = all_laid c.before.before.before.before.before.before.before

pub returns : goal.returns
returns c = all_laid c.before.before

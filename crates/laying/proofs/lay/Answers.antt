-- `lay` lays elements word by word of the upper run: the first i follow what was laid before, and the count has grown by i.
use mathlib.Core.Path.{◌≡◌, refl}
use mathlib.Core.List.{◌++◌, append-nil, append_assoc}
use Prim.Native.Nat.{ℕ, ◌+◌, ◌-◌, ◌≤◌, ◌<◌}
use native.Mathlib.Omega.{arith}
use lib.ListN.{length, get_or, take, drop}
use lib.Seq.{take-add}
use Rattle.filllaws.specs.Filling.{Ready, Laid}
use Rattle.filllaws.proofs.PartLaws.{count_more}
use Rattle.filllaws.proofs.RiseLaws.{follows_next, follows_more, follows_drop}
use Rattle.laying.proofs.lay.Lts
use Rattle.laying.proofs.lay.Reads
use Rattle.laying.proofs.lay.Tie
use Rattle.laying.proofs.lay.Goals as goal

abbrev At-loop-i : Type 0
At-loop-i = Lts.At-loop Tie.the-claims Reads.Pre Reads.Post goal.the-invariant-loop-i goal.the-decreases-loop-i

abbrev Start : Type 0
Start = Lts.Start Tie.the-claims Reads.Pre Reads.Post goal.the-invariant-loop-i goal.the-decreases-loop-i

abbrev In-loop-i : Type 0
In-loop-i = Lts.In-loop Tie.the-claims Reads.Pre Reads.Post goal.the-invariant-loop-i goal.the-decreases-loop-i

abbrev After-put-f : Type 0
After-put-f = Lts.After-put Tie.the-claims Reads.Pre Reads.Post goal.the-invariant-loop-i goal.the-decreases-loop-i

abbrev After-lay_near-f : Type 0
After-lay_near-f = Lts.After-lay_near Tie.the-claims Reads.Pre Reads.Post goal.the-invariant-loop-i goal.the-decreases-loop-i

-- the start, seen from the loop
abbrev entry : At-loop-i → Start
entry l = l.before.before.before

pub loop-i-init : goal.loop-i-init
loop-i-init c = (omega arith, refl, omega arith, λ xs before p f. rw append-nil p)

-- the next element may follow
ready : (c : In-loop-i)
    → let l = c in
    let a = l.args in
    Ready a.g l.loop-i.f (get_or a.list.now l.loop-i.i 0) l.loop-i.room
ready c =
    let l = c in
    let s = l in
    let a = s.args in
    let o = s.requires in
    record {
      xs = o.xs ++ take l.loop-i.i a.list.now;
      before = o.before;
      partly = l.loop-i.invariant.3 o.xs o.before o.partly o.follows;
      next = follows_next a.g o.xs a.list.now o.follows l.loop-i.i (omega arith);
    }

-- where it is laid
put_laid : (c : After-put-f)
    → let l = c in
    let a = l.args in
    Laid a.g a.start a.list.now (l.loop-i.i + 1) c.put-f.result a.room.now c.put-f.new.room
put_laid c xs before p f =
    let l = c in
    let a = l.args in
    let i = l.loop-i.i in
    let h : i < length a.list.now = omega arith in
    rw (follows_more a.g xs a.list.now f i h)
    (c.put-f.ensures (xs ++ take i a.list.now) before (l.loop-i.invariant.3 xs before p f)
    (follows_next a.g xs a.list.now f i h))

pub overflow_cast-list : goal.overflow_cast-list
overflow_cast-list c = omega (arith, c.shared_slice_known-in-loop-i-1.given c.loop-i.i)

pub put-f-requires : goal.put-f-requires
put-f-requires c = ready c.before.before.before

pub lay_near-f-requires : goal.lay_near-f-requires
lay_near-f-requires c =
    let k = c in
    let l = k in
    let s = l in
    let a = s.args in
    let o = s.requires in (
      omega arith,
      record {
        xs = o.xs ++ take (l.loop-i.i + 1) a.list.now;
        before = o.before;
        partly = put_laid k.before.before.before.before o.xs o.before o.partly o.follows;
        follows = follows_drop a.g o.xs a.list.now (l.loop-i.i + 1) o.follows;
      },
    )

-- how far the count has grown
grown : (c : After-lay_near-f)
    → let k = c in
    let l = k in
    let a = l.args in
    (a.start.count + l.loop-i.i + 1 ≤ c.lay_near-f.result.count)
    × (c.lay_near-f.result.count ≤ a.start.count + length a.list.now)
    × (k.put-f.result.count ≡ a.start.count + l.loop-i.i + 1)
grown c =
    let k = c in
    let t = k in
    let n = count_more (ready t.before.before.before.before.before.before.before) k.put-f.ensures in
    (omega (arith, n, c.lay_near-f.ensures), omega (arith, n, c.lay_near-f.ensures), omega (arith, n))

pub loop-i-preserved : goal.loop-i-preserved
loop-i-preserved c =
    let n = c in
    let k = n in
    let l = k in
    let a = l.args in
    let g = grown n.before.before.before.before.before in
    let ys = a.list.now in
    let i : ℕ = l.loop-i.i + 1 in
    let m : ℕ = n.lay_near-f.result.count - k.put-f.result.count in
    let e : n.lay_near-f.result.count - a.start.count ≡ i + m = omega (arith, g) in (
      omega (arith, g),
      omega arith,
      omega (arith, g),
      λ xs before p f.
          rw (e, take-add i m ys, ← append_assoc xs (take i ys) (take m (drop i ys)))
          (n.lay_near-f.ensures.2 (xs ++ take i ys) before (put_laid k.before.before.before.before.before.before.before.before.before xs before p f) (follows_drop a.g xs ys i f)),
    )

pub returns : goal.returns
returns c =
    let l = c in
    let e : length l.args.list.now ≡ l.loop-i.i = omega arith in
    rw e l.loop-i.invariant.3

pub overflow_sub-i : goal.overflow_sub-i
overflow_sub-i c = omega (arith, grown c.before.before.before.before.before)

pub loop-i-smaller : goal.loop-i-smaller
loop-i-smaller c = omega (arith, grown c.before.before.before.before.before)

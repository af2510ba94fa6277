-- `narrowed` keeps the numbers from the share up, where that has few enough ones before it, else those below it.
use mathlib.Core.Path.{sym, ◌∙◌}
use Prim.Native.Nat.{ℕ, ◌+◌, ◌-◌, ◌*◌, ◌/◌, ◌≤◌, ◌<◌}
use native.Mathlib.Omega.{arith}
use borrow.Author.Tests.{leb-true, leb-false}
use Rattle.readlaws.specs.Open.{number_at, Comparable}
use Rattle.readlaws.proofs.NearLaws.{share_le, share_fits, compares_lower, more_some, below_ends}
use Rattle.pointers.proofs.narrowed.Lts
use Rattle.pointers.proofs.narrowed.Reads
use Rattle.pointers.proofs.narrowed.Tie
use Rattle.pointers.proofs.narrowed.Goals as goal

abbrev Start : Type 0
Start = Lts.Start Tie.the-claims Reads.Pre Reads.Post

abbrev Else-precedes : Type 0
Else-precedes = Lts.Else1 Tie.the-claims Reads.Pre Reads.Post

-- the share is the number of one
share : (c : Start) → c.args.rank * c.args.last / c.args.n ≤ c.args.last
share c = share_le c.args.rank c.args.last c.args.n c.requires.below

lower : (c : Start) (i : ℕ) → i ≤ c.args.last
    → Comparable c.args.block.now i c.args.zeros c.args.rank
lower c i l =
    let a = c.args in
    compares_lower a.block.now a.last a.zeros a.rank c.requires.compares i l

pub overflow_mul-guess : goal.overflow_mul-guess
overflow_mul-guess c =
    let a = c.args in
    record { fits = share_fits a.block.now a.last a.zeros a.rank c.requires.compares }

pub precedes-requires : goal.precedes-requires
precedes-requires c =
    let a = c.args in
    lower c.before.before (a.rank * a.last / a.n) (share c.before.before)

pub high_near-high-requires : goal.high_near-high-requires
high_near-high-requires c =
    let start = c.before.before.before.before in
    (start.requires.compares, share start)

pub returns-then-precedes : goal.returns-then-precedes
returns-then-precedes c =
    let a = c.args in
    let guess : ℕ = a.rank * a.last / a.n in
    let high = c.high_near-high.ensures in
    record {
      order = high.0;
      before =
          leb-true (number_at a.block.now guess) (a.zeros * guess + a.rank)
          (sym c.precedes.ensures ∙ c.if-precedes.true);
      ends = high.1;
    }

-- the number at the share has more ones before it
more : (c : Else-precedes)
    → let a = c.args in
    let guess : ℕ = a.rank * a.last / a.n in
    a.zeros * guess + a.rank < number_at a.block.now guess
more c =
    let a = c.args in
    let guess : ℕ = a.rank * a.last / a.n in
    leb-false (number_at a.block.now guess) (a.zeros * guess + a.rank)
    (sym c.precedes.ensures ∙ c.if-precedes.false)

-- so there is one below it
some : (c : Else-precedes)
    → let a = c.args in
    0 < a.rank * a.last / a.n
some c =
    let a = c.args in
    more_some a.block.now a.last a.zeros a.rank (a.rank * a.last / a.n) (more c)

pub overflow_sub-high : goal.overflow_sub-high
overflow_sub-high c = some c.before

pub low_near-low-requires : goal.low_near-low-requires
low_near-low-requires c =
    let start = c.before.before.before.before in
    let a = start.args in
    lower start (a.rank * a.last / a.n - 1) (omega (arith, share start))

pub returns : goal.returns
returns c =
    let start = c.before.before.before.before.before in
    let a = start.args in
    let low = c.low_near-low.ensures in
    record {
      order = low.0;
      before = low.1;
      ends = below_ends a.block.now a.last a.zeros a.rank (a.rank * a.last / a.n) (some c.before.before)
          (share start) (more c.before.before);
    }

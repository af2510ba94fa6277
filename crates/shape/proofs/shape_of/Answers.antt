-- `shape_of` gives the shape: each field is worked out as its definition says, and none passes 32 bits.
use mathlib.Core.Path.{sym}
use Prim.Native.Nat.{ℕ, ◌*◌, ◌/◌, ◌^◌, ◌≤◌}
use native.Mathlib.Omega.{arith}
use Rattle.rules.specs.Runs.{words_for}
use Rattle.rules.specs.List.{zeros, lower_at, upper_at}
use Rattle.listlaws.proofs.BlockLaws.{size_is}
use Rattle.shape.proofs.ShapeLaws.{shape_none, shape_some, bounded}
use Rattle.shape.proofs.shape_of.Lts
use Rattle.shape.proofs.shape_of.Reads
use Rattle.shape.proofs.shape_of.Tie
use Rattle.shape.proofs.shape_of.Goals as goal

abbrev After-width-w : Type 0
After-width-w = Lts.After-width Tie.the-claims Reads.Pre Reads.Post

-- the zeros and the product of n and the width, as the code has them
record Small (u n w : ℕ) : Type 0 where
  few : u / 2 ^ w ≤ u
  short : n * w ≤ u
  within : u ≤ 16777216
  below : n ≤ u

small : (c : After-width-w) → Small c.args.u c.args.n c.width-w.result
unfolding zeros
small c =
    let a = c.args in
    let b = bounded a.u a.n (omega arith) (omega arith) (omega arith) in
    record {
      few = rw c.width-w.ensures.0 b.few;
      short = rw c.width-w.ensures.0 b.short;
      within = omega arith;
      below = omega arith;
    }

pub returns-then-n-eq0 : goal.returns-then-n-eq0
returns-then-n-eq0 c = sym (shape_none c.args.u c.args.n c.if-n-eq0.true)

pub returns : goal.returns
unfolding zeros words_for lower_at upper_at
returns c =
    let a = c.args in
    rw (c.width-w.ensures.0, shape_some a.u a.n (omega arith), size_is a.u a.n (omega arith))

pub overflow_mul-lower : goal.overflow_mul-lower
overflow_mul-lower c = let s = small c in omega arith

pub overflow_add-lower : goal.overflow_add-lower
overflow_add-lower c = let s = small c in omega arith

pub overflow_mul-upper : goal.overflow_mul-upper
overflow_mul-upper c = let s = small c in omega arith

pub overflow_add-upper : goal.overflow_add-upper
overflow_add-upper c = let s = small c in omega arith

pub overflow_mul-upper-2 : goal.overflow_mul-upper-2
overflow_mul-upper-2 c = let s = small c in omega arith

pub overflow_add-upper-2 : goal.overflow_add-upper-2
overflow_add-upper-2 c = let s = small c in omega arith

pub overflow_add-result : goal.overflow_add-result
overflow_add-result c = let s = small c in omega arith

pub overflow_add-result-2 : goal.overflow_add-result-2
overflow_add-result-2 c = let s = small c in omega arith

pub overflow_add-result-3 : goal.overflow_add-result-3
overflow_add-result-3 c = let s = small c in omega arith

pub overflow_mul-result : goal.overflow_mul-result
overflow_mul-result c = let s = small c in omega arith

pub overflow_add-result-4 : goal.overflow_add-result-4
overflow_add-result-4 c = let s = small c in omega arith

-- `last_one` finds the last one: the words above word k have none.
use mathlib.Core.Path.{◌≡◌, sym, ap, ◌∙◌}
use mathlib.Core.List.{List}
use Prim.Native.Nat.{ℕ, ◌+◌, ◌-◌, ◌*◌, ◌/◌, ◌<◌}
use native.Mathlib.Omega.{arith}
use lib.ListN.{length}
use Rattle.rules.specs.Counts.{ones_below}
use Rattle.laws.proofs.CountLaws.{below_none}
use Rattle.readlaws.specs.Open.{ones_in}
use Rattle.readlaws.proofs.OneLaws.{count_lt}
use Rattle.readlaws.proofs.LastLaws.{leading_some, none_below, last_below}
use Rattle.nearones.proofs.last_one.Lts
use Rattle.nearones.proofs.last_one.Reads
use Rattle.nearones.proofs.last_one.Tie
use Rattle.nearones.proofs.last_one.Goals as goal

abbrev Start : Type 0
Start = Lts.Start Tie.the-claims Reads.Pre Reads.Post goal.the-invariant-loop-x goal.the-decreases-loop-x

abbrev In-loop-x : Type 0
In-loop-x = Lts.In-loop Tie.the-claims Reads.Pre Reads.Post goal.the-invariant-loop-x goal.the-decreases-loop-x

abbrev After-loop-x : Type 0
After-loop-x = Lts.After-loop Tie.the-claims Reads.Pre Reads.Post goal.the-invariant-loop-x goal.the-decreases-loop-x

-- the run has a word
worded : (c : Start) → 0 < length c.args.run.now / 8
worded c =
    let s : List ℕ = c.args.run.now in
    let l = count_lt s 0 0 (64 * (length s / 8)) (omega (arith, below_none s 0, c.requires.some)) in
    omega arith

pub overflow_sub-k : goal.overflow_sub-k
overflow_sub-k c = worded c.before.before

pub run_word-x-requires : goal.run_word-x-requires
run_word-x-requires c =
    let w = worded c.before.before in
    omega arith

pub loop-x-init : goal.loop-x-init
loop-x-init c =
    let start = c.before.before.before in
    let s : List ℕ = start.args.run.now in
    let w = worded start in
    let e : length s / 8 - 1 + 1 ≡ length s / 8 = omega arith in
    (omega arith, c.run_word-x.ensures, omega arith, ap (λ (k : ℕ). ones_below s 0 (64 * k)) e)

-- word k has no one, so that there is a word below it, and the ones below word k are all
left : (c : In-loop-x)
    → (0 < c.loop-x.k)
    × (ones_below c.args.run.now 0 (64 * c.loop-x.k)
    ≡ ones_in c.args.run.now)
left c =
    let at = c.loop-x in
    let start = c.before.before.before.before in
    let s : List ℕ = start.args.run.now in
    let e : ones_below s 0 (64 * at.k) ≡ ones_in s =
    sym (none_below s 0 at.k at.x at.invariant.1 at.invariant.2 c.loop-x-test.true) ∙ at.invariant.3 in
    let l = count_lt s 0 0 (64 * at.k) (omega (arith, below_none s 0, start.requires.some, e)) in
    (omega arith, e)

pub overflow_sub-k-in-loop-x : goal.overflow_sub-k-in-loop-x
overflow_sub-k-in-loop-x c = (left c.before).0

pub run_word-x-requires-in-loop-x : goal.run_word-x-requires-in-loop-x
run_word-x-requires-in-loop-x c =
    let l = left c.before in
    omega arith

pub loop-x-smaller : goal.loop-x-smaller
loop-x-smaller c =
    let l = left c.before.before in
    omega arith

pub loop-x-preserved : goal.loop-x-preserved
loop-x-preserved c =
    let at = c.loop-x in
    let s : List ℕ = c.args.run.now in
    let l = left c.before.before in
    let e : at.k - 1 + 1 ≡ at.k = omega (arith, l.0) in
    (omega arith, c.run_word-x-in-loop-x.ensures, omega arith, ap (λ (k : ℕ). ones_below s 0 (64 * k)) e ∙ l.1)

-- word k has the last one
found : (c : After-loop-x) → 0 < c.loop-x.x
found c = omega (arith, c.loop-x-test.false)

pub overflow_mul-result : goal.overflow_mul-result
overflow_mul-result c =
    record { fits = omega arith }

pub overflow_sub-result : goal.overflow_sub-result
overflow_sub-result c = omega (arith, leading_some c.loop-x.x (found c.before) c.loop-x.invariant.2)

pub overflow_add-result : goal.overflow_add-result
overflow_add-result c =
    record { fits = omega arith }

pub returns : goal.returns
returns c =
    let at = c.loop-x in
    let s : List ℕ = c.args.run.now in
    let l = last_below s 0 at.k at.x at.invariant.1 at.invariant.2 (found c.before) in
    record { one = rw at.invariant.3 at l; inside = omega arith }

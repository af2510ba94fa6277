-- `after_zero` drops the lowest ones of the complement: its one number j is number j - i once i are dropped.
use mathlib.Core.Path.{◌≡◌, ap, ◌∙◌}
use Prim.Native.Nat.{ℕ, zero, suc, ◌+◌, ◌-◌, ◌%◌, ◌^◌, ◌<◌}
use native.Mathlib.Nat.{sub-zero, mod-eq_of_lt}
use native.Mathlib.Omega.{arith}
use lib.Count.{ones, count_trailing_zeros}
use Rattle.fields.specs.Words.{place_of_one}
use Rattle.fields.proofs.WordLaws.{place_trailing, place_none, place_some}
use Rattle.selectlaws.proofs.SelectLaws.{place_drop}
use Rattle.pointlaws.proofs.PointLaws.{word_zeros, word_after}
use Rattle.pointing.proofs.after_zero.Lts
use Rattle.pointing.proofs.after_zero.Reads
use Rattle.pointing.proofs.after_zero.Goals as goal

abbrev Start : Type 0
Start = Lts.Start Reads.Pre Reads.Post goal.the-invariant-loop goal.the-decreases-loop

abbrev After-loop : Type 0
After-loop = Lts.After-loop Reads.Pre Reads.Post goal.the-invariant-loop goal.the-decreases-loop

-- the zero is in the word
within : (c : Start) → place_of_one 64 (2 ^ 64 - 1 - c.args.x) c.args.j < 64
within c =
    let x = c.args.x in
    let e : (2 ^ 64 - 1 - x) % 2 ^ 64 ≡ 2 ^ 64 - 1 - x = mod-eq_of_lt (omega arith) in
    place_some 64 (2 ^ 64 - 1 - x) c.args.j (rw e (omega (arith, c.requires, word_zeros x (omega arith))))

-- a word with a one is not 0
positive : (y j : ℕ) → place_of_one 64 y j < 64 → 0 < y
unfolding ones
positive zero j h = absurd (omega (arith, place_none 64 0 j (omega arith)))
positive (suc y) j h = omega arith

pub overflow_sub-zeros : goal.overflow_sub-zeros
overflow_sub-zeros c =
    let l = c in
    let k : ℕ = l.args.j - l.loop.counter in
    positive l.loop.zeros k (omega (arith, l.loop.invariant.1, within l.before.before))

pub loop-preserved : goal.loop-preserved
loop-preserved c =
    let l = c in
    let y = l.loop.zeros in
    let k : ℕ = l.args.j - (l.loop.counter + 1) in
    let e : suc k ≡ l.args.j - l.loop.counter = omega (arith, c.loop-test.true) in
    (omega (arith, c.loop-test.true), place_drop 64 y k (overflow_sub-zeros c) ∙ ap (place_of_one 64 y) e ∙ l.loop.invariant.1)

-- the first one left
first : (c : After-loop)
    → let a = c.args in
    count_trailing_zeros 64 c.loop.zeros ≡ place_of_one 64 (2 ^ 64 - 1 - a.x) a.j
first c =
    let l = c in
    let e : 0 ≡ l.args.j - l.loop.counter = omega (arith, c.loop-test.false) in
    place_trailing 64 l.loop.zeros ∙ ap (place_of_one 64 l.loop.zeros) e ∙ l.loop.invariant.1

first_lt : (c : After-loop) → count_trailing_zeros 64 c.loop.zeros < 64
first_lt c = omega (arith, first c, within c.before.before)

pub returns : goal.returns
returns c =
    let a = c.args in (
      word_after a.x a.j (count_trailing_zeros 64 c.loop.zeros) (omega arith) (first c) (first_lt c),
      omega (arith, first_lt c),
    )

pub loop-init : goal.loop-init
loop-init c = (omega arith, rw sub-zero)

pub overflow_step : goal.overflow_step
overflow_step c = record { fits = omega (arith, c.loop-test.true) }

pub loop-smaller : goal.loop-smaller
loop-smaller c = omega (arith, c.loop-test.true)

pub overflow_cast-result : goal.overflow_cast-result
overflow_cast-result c = record { fits = omega (arith, first_lt c) }

pub overflow_add-result : goal.overflow_add-result
overflow_add-result c = record { fits = omega (arith, first_lt c) }

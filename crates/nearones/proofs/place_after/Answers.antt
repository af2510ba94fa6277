-- `place_after` passes words without a one: none lies between the start and the first that is left of the word.
use mathlib.Core.Path.{◌≡◌, refl, ap, ◌∙◌}
use mathlib.Core.List.{List}
use Prim.Native.Nat.{ℕ, ◌+◌, ◌*◌, ◌/◌, ◌%◌, ◌^◌, ◌<◌}
use native.Mathlib.Omega.{arith}
use lib.Count.{count_trailing_zeros, trailing_of_zero}
use Rattle.rules.specs.Runs.{words_for}
use Rattle.rules.specs.Counts.{ones_below}
use Rattle.laws.proofs.BitLaws.{tz_lt}
use Rattle.fields.proofs.WordLaws.{next_from}
use Rattle.readlaws.specs.Open.{Open}
use Rattle.readlaws.proofs.PartLaws.{Reached, flat_inside, word_inside, reach_word, reach_past}
use Rattle.shape.specs.declared.Shape.{Shape}
use Rattle.nearones.proofs.place_after.Goals as goal

pub run_word-requires : goal.run_word-requires
run_word-requires c =
    let a = c.args in
    let p = c.requires in
    (word_inside a.block.now a.g p.0 a.start p.1 (a.start / 64)
    (flat_inside a.block.now a.g p.0 a.start p.1 a.start refl)).0

pub loop-left-init : goal.loop-left-init
loop-left-init c =
    let a = c.args in
    let p = c.requires in
    let e : 64 * (a.start / 64) + a.start % 64 ≡ a.start = omega arith in
    let x = c.run_word.result in (
      c.from_bit-left.type_inv,
      reach_word a.block.now a.g p.0 a.start p.1 (a.start / 64) (a.start % 64) x
          (count_trailing_zeros 64 c.from_bit-left.result)
          (flat_inside a.block.now a.g p.0 a.start p.1 a.start refl) (omega arith)
          (ap (ones_below a.block.now a.g.upper) e) c.run_word.ensures
          (ap (count_trailing_zeros 64) c.from_bit-left.ensures ∙ next_from x (a.start % 64) (omega arith)),
    )

-- the word after one without
past : (s : List ℕ) (g : Shape) (o : Open s g) (start : ℕ) (some : ones_below s g.upper start < g.n) (k left : ℕ)
    → Reached s g start k (count_trailing_zeros 64 left) → left ≡ 0
    → (k + 1 < words_for g.bits) × (ones_below s g.upper (64 * (k + 1) + 0) ≡ ones_below s g.upper start)
past s g o start some k left r none = reach_past s g o start some k (rw (none, trailing_of_zero) at r)

pub overflow_add-k : goal.overflow_add-k
overflow_add-k c =
    let a = c.args in
    omega (arith, word_inside a.block.now a.g c.requires.0 a.start c.requires.1 c.loop-left.k c.loop-left.invariant.1.inside)

pub run_word-left-requires : goal.run_word-left-requires
run_word-left-requires c =
    let a = c.args in
    let l = c.loop-left in
    let n = past a.block.now a.g c.requires.0 a.start c.requires.1 l.k l.left l.invariant.1 c.loop-left-test.true in
    (word_inside a.block.now a.g c.requires.0 a.start c.requires.1 (l.k + 1) n.0).0

pub loop-left-smaller : goal.loop-left-smaller
loop-left-smaller c =
    let a = c.args in
    let l = c.loop-left in
    omega (arith, past a.block.now a.g c.requires.0 a.start c.requires.1 l.k l.left l.invariant.1 c.loop-left-test.true)

pub loop-left-preserved : goal.loop-left-preserved
loop-left-preserved c =
    let a = c.args in
    let l = c.loop-left in
    let x = c.run_word-left.result in
    let n = past a.block.now a.g c.requires.0 a.start c.requires.1 l.k l.left l.invariant.1 c.loop-left-test.true in
    let e : x / 2 ^ 0 * 2 ^ 0 ≡ x = omega arith in (
      c.run_word-left.type_inv,
      reach_word a.block.now a.g c.requires.0 a.start c.requires.1 (l.k + 1) 0 x (count_trailing_zeros 64 x)
          n.0 (omega arith) n.1 c.run_word-left.ensures (rw e at (next_from x 0 (omega arith))),
    )

pub returns : goal.returns
returns c =
    let l = c.loop-left in
    let some = tz_lt 64 l.left (omega (arith, c.loop-left-test.false)) l.invariant.0 in
    record { set = l.invariant.1.set some; below = l.invariant.1.flat }

pub overflow_mul-result : goal.overflow_mul-result
overflow_mul-result c =
    let a = c.args in
    let l = c.loop-left in
    omega (arith, word_inside a.block.now a.g c.requires.0 a.start c.requires.1 l.k l.invariant.1.inside)

pub overflow_add-result : goal.overflow_add-result
overflow_add-result c =
    let a = c.args in
    let l = c.loop-left in
    omega (arith, l.invariant.1.short, word_inside a.block.now a.g c.requires.0 a.start c.requires.1 l.k l.invariant.1.inside)

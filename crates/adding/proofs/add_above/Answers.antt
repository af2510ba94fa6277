-- `add_above` lays elements one by one: the low parts and the ones of the first i are laid or in hand, whatever the shape.
use Rattle.std.proofs.Common.{◌≡◌, ℕ, ◌+◌, ◌/◌, ◌^◌, ◌≤◌, ◌<◌, List, length, get_or, subst, arith}
use lib.Pow.{shr_le}
use Rattle.shape.specs.declared.Shape.{Shape}
use Rattle.filllaws.specs.declared.Lows.{Lows}
use Rattle.addlaws.specs.declared.Highs.{Highs}
use Rattle.addlaws.specs.Adding.{Slots, BothLaid}
use Rattle.addlaws.proofs.AddLaws.{lows_lt}
use Rattle.addlaws.proofs.ElementLaws.{given_below, given_small}
use Rattle.addlaws.proofs.AddedLaws.{runs_in}
use Rattle.addlaws.proofs.OneLaws.{shape_at, slots_asked}
use Rattle.addlaws.proofs.BothLaws.{both_none, high_room, both_high, low_room, both_low, last_room, both_added}
use Rattle.adding.proofs.add_above.Goals as goal

module _ {lower upper w from base : ℕ} {list block : List ℕ} {g : Shape}
    (o : Slots lower upper w from base list block g) where
  -- an element is below U, and the sums that are made of it are small
  small : (i : ℕ) → i < length list
      → let x : ℕ = base + get_or list i 0 in
      (w ≤ 24) × (x ≤ 2 ^ 24) × (from + i ≤ 2 ^ 24) × (x / 2 ^ w ≤ 2 ^ 24)
  small i h =
      let t = given_small (slots_asked o) in
      let b = given_below (slots_asked o) i h in
      let r = shr_le (base + get_or list i 0) w in
      (t.0, omega (arith, t, b), omega (arith, t, h), omega (arith, t, b, r))

  -- the runs lie in the block
  runs : (lower ≤ upper) × (upper ≤ length block)
  runs = runs_in (shape_at lower upper w g) block (slots_asked o).fitting

  -- where the loop ends, all elements are laid or in hand
  all : (i : ℕ) {a : Lows} {h : Highs} {e : List ℕ} → BothLaid (shape_at lower upper w g) from base list i i a h block e
      → i ≤ length list → length list ≤ i
      → BothLaid (shape_at lower upper w g) from base list (length list) (length list) a h block e
  all i {a} {h} {e} laid l m =
      let n : i ≡ length list = omega arith in
      subst (λ k. BothLaid (shape_at lower upper w g) from base list k k a h block e) n laid

pub loop-i-init : goal.loop-i-init
loop-i-init c g o = both_none (slots_asked o) (λ i. (c.type_inv.block i).fits) c.nothing_laid-lows.ensures

pub add_high-highs-requires : goal.add_high-highs-requires
add_high-highs-requires c =
    let s = c.requires in high_room (slots_asked s.slots) (c.loop-i.invariant s.shape s.slots)

pub add_low-lows-requires : goal.add_low-lows-requires
add_low-lows-requires c =
    let s = c.requires in
    let l = c.loop-i in
    let ask = slots_asked s.slots in
    let laid = l.invariant s.shape s.slots in (
      laid.lows.short,
      omega (arith, small s.slots l.i c.loop-i-test.true),
      lows_lt _ _ _ l.lows _ _ laid.lows,
      low_room ask (both_high ask laid c.loop-i-test.true c.add_high-highs.ensures) c.loop-i-test.true,
    )

pub loop-i-preserved : goal.loop-i-preserved
loop-i-preserved c g o =
    let ask = slots_asked o in
    let risen = both_high ask (c.loop-i.invariant g o) c.loop-i-test.true c.add_high-highs.ensures in
    both_low ask risen c.loop-i-test.true c.add_low-lows.ensures

pub flush-requires : goal.flush-requires
flush-requires c =
    let s = c.requires in high_room (slots_asked s.slots) (c.loop-i.invariant s.shape s.slots)

pub flush-requires-2 : goal.flush-requires-2
flush-requires-2 c =
    let s = c.requires in
    let l = c.loop-i in
    last_room (slots_asked s.slots) (all s.slots l.i (l.invariant s.shape s.slots) l.auto.i-end c.loop-i-test.false)
    c.flush.ensures

pub returns : goal.returns
returns c g o =
    let l = c.loop-i in
    both_added (slots_asked o) (all o l.i (l.invariant g o) l.auto.i-end c.loop-i-test.false) c.flush.ensures
    c.flush-2.ensures

pub overflow_mul-from : goal.overflow_mul-from
overflow_mul-from c = omega (arith, given_small (slots_asked c.requires.slots))

pub overflow_add-x : goal.overflow_add-x
overflow_add-x c = omega (arith, small c.requires.slots c.loop-i.i c.loop-i-test.true)

pub overflow_shr-x : goal.overflow_shr-x
overflow_shr-x c = omega (arith, small c.requires.slots c.loop-i.i c.loop-i-test.true)

pub overflow_add-x-in-loop-i : goal.overflow_add-x-in-loop-i
overflow_add-x-in-loop-i c = omega (arith, small c.requires.slots c.loop-i.i c.loop-i-test.true)

pub slice_bounds-add_high-count : goal.slice_bounds-add_high-count
slice_bounds-add_high-count c = omega (arith, runs c.requires.slots, c.loop-i.auto.block)

pub slice_bounds-add_high-start : goal.slice_bounds-add_high-start
slice_bounds-add_high-start c = omega (arith, runs c.requires.slots, c.loop-i.auto.block)

pub slice_bounds-add_low-count : goal.slice_bounds-add_low-count
slice_bounds-add_low-count c = omega (arith, runs c.requires.slots, c.loop-i.auto.block)

pub slice_bounds-add_low-start : goal.slice_bounds-add_low-start
slice_bounds-add_low-start c = omega (arith, runs c.requires.slots, c.loop-i.auto.block)

pub slice_bounds-flush-count : goal.slice_bounds-flush-count
slice_bounds-flush-count c = omega (arith, runs c.requires.slots, c.loop-i.auto.block)

pub slice_bounds-flush-start : goal.slice_bounds-flush-start
slice_bounds-flush-start c = omega (arith, runs c.requires.slots, c.loop-i.auto.block)

pub slice_bounds-flush-count-2 : goal.slice_bounds-flush-count-2
slice_bounds-flush-count-2 c = omega (arith, runs c.requires.slots, c.loop-i.auto.block)

pub slice_bounds-flush-start-2 : goal.slice_bounds-flush-start-2
slice_bounds-flush-start-2 c = omega (arith, runs c.requires.slots, c.loop-i.auto.block)

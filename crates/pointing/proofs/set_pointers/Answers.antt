-- `set_pointers` writes the pointers: those below number q stand in the block, and the words passed have fewer zeros.
use mathlib.Core.Path.{◌≡◌, sym, subst}
use mathlib.Core.List.{List}
use Prim.Native.Nat.{ℕ, ◌+◌, ◌-◌, ◌*◌, ◌/◌, ◌^◌, ◌<◌, ◌≤◌}
use native.Mathlib.Omega.{arith}
use lib.ListN.{length, take, drop, length-drop}
use lib.Seq.{length-take-le}
use Rattle.rules.specs.Bytes.{Bytes}
use Rattle.rules.specs.Runs.{words_for}
use Rattle.filllaws.specs.Filling.{Stored}
use Rattle.filllaws.proofs.StoreLaws.{stored_none}
use Rattle.pointlaws.specs.Pointing.{Before, Reached}
use Rattle.pointlaws.proofs.PointLaws.{before_none, before_later}
use Rattle.pointlaws.proofs.PointedLaws.{Spaced, spaced, run_number, run_back, pointer_in}
use Rattle.pointlaws.proofs.PointedLaws.{run_kept, pointer_more, stored_pointed}
use Rattle.pointing.proofs.set_pointers.Lts
use Rattle.pointing.proofs.set_pointers.Reads
use Rattle.pointing.proofs.set_pointers.Tie
use Rattle.pointing.proofs.set_pointers.Goals as goal

abbrev Start : Type 0
Start = Lts.Start Tie.the-claims Reads.Pre Reads.Post goal.the-invariant-loop-q goal.the-decreases-loop-q

abbrev After-slice_known-1 : Type 0
After-slice_known-1 = Lts.After-slice_known Tie.the-claims Reads.Pre Reads.Post goal.the-invariant-loop-q goal.the-decreases-loop-q

abbrev At-loop-q : Type 0
At-loop-q = Lts.At-loop Tie.the-claims Reads.Pre Reads.Post goal.the-invariant-loop-q goal.the-decreases-loop-q

abbrev In-loop-q : Type 0
In-loop-q = Lts.In-loop Tie.the-claims Reads.Pre Reads.Post goal.the-invariant-loop-q goal.the-decreases-loop-q

space : (c : Start) → Spaced c.args.g (length c.args.block.now)
space c = spaced c.args.g c.args.block.now c.requires

bytes_at : (c : After-slice_known-1) → Bytes c.args.block.now
bytes_at c i = (c.slice_known-1.given i).fits

pub loop-q-init : goal.loop-q-init
loop-q-init c =
    let a = c.args in (
      omega arith,
      omega arith,
      stored_none 4 9 (pointer_in a.g a.block.now) 1 a.block.now,
      before_none (run_number a.g a.block.now) (words_for a.g.bits) 256 (omega arith),
      bytes_at c.before.before,
    )

abbrev by_loop : At-loop-q → Start
by_loop c = c.before.before.before

-- a pointer that is to come is one of the block's
small : (c : In-loop-q) → c.loop-q.q < 2 ^ 20
small c = omega (arith, c.loop-q-test.true, (space c.before.before.before.before).few)

pub slice_bounds-run-count : goal.slice_bounds-run-count
slice_bounds-run-count c =
    let l = c in
    omega (arith, (space l.before.before.before.before).run_end, l.loop-q.invariant.2.long)

-- the run in the block
abbrev run_at : At-loop-q → List ℕ
run_at c =
    let up = c.args.g.upper in
    take (length c.loop-q.block - up) (drop up c.loop-q.block)

run_long : (c : At-loop-q) → 8 * words_for c.args.g.bits ≤ length (run_at c)
run_long c =
    let up = c.args.g.upper in
    let d = length-drop up c.loop-q.block in
    let e : length (run_at c) ≡ length c.loop-q.block - up =
    length-take-le (length c.loop-q.block - up) (drop up c.loop-q.block) (omega arith) in
    omega (arith, e, (space c.before.before.before).run_end, c.loop-q.invariant.2.long)

run_same : (c : At-loop-q)
    → let a = c.args in run_back a.g c.loop-q.block ≡ run_number a.g a.block.now
run_same c =
    let a = c.args in
    let i = c.loop-q.invariant in
    run_kept a.g (pointer_in a.g a.block.now) a.block.now c.loop-q.block (space c.before.before.before)
    c.loop-q.q i.2 i.1

pub pass_to-at-requires : goal.pass_to-at-requires
pass_to-at-requires c =
    let l = c in
    let m = words_for l.args.g.bits in (
      run_long l.before.before,
      (space l.before.before.before.before.before).short,
      subst (λ u. Before u m (256 * l.loop-q.q) l.loop-q.at) (sym (run_same l.before.before)) l.loop-q.invariant.3,
    )

pub place_after-place-requires : goal.place_after-place-requires
place_after-place-requires c =
    let l = c in
    (run_long l.before.before.before, (space l.before.before.before.before.before.before).short, c.pass_to-at.ensures)

pub write_u32-requires : goal.write_u32-requires
write_u32-requires c =
    let b = c in
    let l = b in
    let p = space l.before.before.before.before.before.before.before.before in
    omega (arith, b.loop-q-test.true, p.pointers_end, p.run_end, l.loop-q.invariant.2.long)

pub loop-q-preserved : goal.loop-q-preserved
loop-q-preserved c =
    let w = c in
    let z = w in
    let p = z in
    let b = p in
    let l = b in
    let a = l.args in
    let i = l.loop-q.invariant in
    let q = l.loop-q.q in
    let m = words_for a.g.bits in
    let at = p.pass_to-at.result in
    let reached = subst (λ u. Reached u m (256 * q) at) (run_same l.before.before.before.before.before.before.before.before.before) p.pass_to-at.ensures in (
      omega arith,
      omega (arith, b.loop-q-test.true),
      pointer_more a.g a.block.now l.loop-q.block l.requires q i.2 i.0 i.1
          z.place_after-place.result w.write_u32.new.d b.loop-q-test.true z.place_after-place.ensures
          w.write_u32.ensures,
      before_later (run_number a.g a.block.now) m (256 * q) (256 * (q + 1)) at reached (omega arith),
      λ j. (c.slice_known-in-loop-q-1.given j).fits,
    )

pub returns : goal.returns
returns c =
    let l = c in
    let a = l.args in
    let i = l.loop-q.invariant in
    let e : l.loop-q.q ≡ (a.g.lower - 13) / 4 + 1 = omega (arith, i.1, c.loop-q-test.false) in
    stored_pointed a.g a.block.now l.loop-q.block l.requires
    (subst (λ n. Stored 4 9 (pointer_in a.g a.block.now) 1 n a.block.now l.loop-q.block) e i.2)
    (bytes_at l.before.before.before) i.4

pub overflow_sub-end : goal.overflow_sub-end
overflow_sub-end c = (space c.before.before.before).header

pub overflow_add-end : goal.overflow_add-end
overflow_add-end c = record { fits = omega (arith, (space c.before.before.before).few) }

pub slice_bounds-run-start : goal.slice_bounds-run-start
slice_bounds-run-start c = omega (arith, slice_bounds-run-count c)

pub slice_bounds-run-end : goal.slice_bounds-run-end
slice_bounds-run-end c = omega (arith, slice_bounds-run-count c)

pub overflow_mul-q : goal.overflow_mul-q
overflow_mul-q c = record { fits = omega (arith, small c.before) }

pub overflow_mul-q-in-loop-q : goal.overflow_mul-q-in-loop-q
overflow_mul-q-in-loop-q c = record { fits = omega (arith, small c.before.before) }

pub overflow_mul-q-in-loop-q-2 : goal.overflow_mul-q-in-loop-q-2
overflow_mul-q-in-loop-q-2 c = record { fits = omega (arith, small c.before.before.before.before) }

pub overflow_add-q : goal.overflow_add-q
overflow_add-q c = record { fits = omega (arith, small c.before.before.before.before) }

pub overflow_step-q : goal.overflow_step-q
overflow_step-q c = record { fits = omega (arith, small c.before.before.before.before.before.before.before.before) }

pub loop-q-smaller : goal.loop-q-smaller
loop-q-smaller c = omega (arith, c.loop-q-test.true)

pub shape_of-block : goal.shape_of-block
shape_of-block c = c.loop-q.invariant.2.long

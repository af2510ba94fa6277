-- `set_numbers` writes the numbers: those up to number i stand in the block, and the count is number i.
use Rattle.std.proofs.Common.{◌≡◌, ◌+◌, ◌/◌, sym, subst, arith}
use Rattle.filllaws.specs.Filling.{Stored}
use Rattle.filllaws.proofs.StoreLaws.{stored_none}
use Rattle.pointlaws.proofs.PointedLaws.{run_number}
use Rattle.pointlaws.proofs.NumberedLaws.{map_spaced, map_numbers, map_words, number_in, number_none, number_next_is}
use Rattle.pointlaws.proofs.NumberedLaws.{number_more, stored_numbered, below_le}
use Rattle.numbering.proofs.set_numbers.Goals as goal

pub loop-i-init : goal.loop-i-init
loop-i-init c =
    let a = c.args in
    record {
      stored = stored_none 4 9 (number_in a.g a.block.now) 1 a.block.now;
      counted = sym (number_none a.g a.block.now);
      began = λ i. (c.type_inv.block i).fits;
      bytes = λ i. (c.type_inv.block i).fits;
    }

pub ones_of-count-requires : goal.ones_of-count-requires
ones_of-count-requires c =
    let a = c.args in
    let s = map_spaced a.g a.block.now c.requires in
    let w = map_words a.g a.block.now c.requires c.loop-i.i c.loop-i-test.true in
    (omega arith, omega (arith, w, s.short), omega (arith, w, s.run_end, c.loop-i.auto.block))

pub overflow_add-count : goal.overflow_add-count
overflow_add-count c =
    let a = c.args in
    let i = c.loop-i.invariant in
    let n = number_next_is a.g a.block.now c.loop-i.block c.requires c.loop-i.i c.loop-i-test.true i.stored
    c.loop-i.count c.ones_of-count.result i.bytes i.counted c.ones_of-count.ensures in
    let l = below_le (run_number a.g a.block.now) (c.loop-i.i + 1) in
    record { fits = omega (arith, n, l, c.requires.within, c.loop-i-test.true) }

pub write_u32-requires : goal.write_u32-requires
write_u32-requires c =
    let a = c.args in
    let s = map_spaced a.g a.block.now c.requires in
    omega (
      arith,
      c.loop-i-test.true,
      map_numbers a.g a.block.now c.requires,
      s.pointers_end,
      s.run_end,
      c.loop-i.auto.block,
    )

pub loop-i-preserved : goal.loop-i-preserved
loop-i-preserved c =
    let a = c.args in
    let i = c.loop-i.invariant in
    let n = number_next_is a.g a.block.now c.loop-i.block c.requires c.loop-i.i c.loop-i-test.true i.stored
    c.loop-i.count c.ones_of-count.result i.bytes i.counted c.ones_of-count.ensures in
    record {
      stored = number_more a.g a.block.now c.loop-i.block c.requires c.loop-i.i c.loop-i-test.true i.stored
          (c.loop-i.count + c.ones_of-count.result) c.write_u32.new.d n c.write_u32.ensures;
      counted = n;
      began = i.began;
      bytes = λ j. (c.type_inv.block j).fits;
    }

pub returns : goal.returns
returns c =
    let a = c.args in
    let i = c.loop-i.invariant in
    let e : c.loop-i.i ≡ a.g.u / 256 = omega (arith, c.loop-i.auto.i-end, c.loop-i-test.false) in
    stored_numbered a.g a.block.now c.loop-i.block c.requires
    (subst (λ n. Stored 4 9 (number_in a.g a.block.now) 1 (n + 1) a.block.now c.loop-i.block) e i.stored)
    i.began i.bytes

-- `ones_of` adds the ones of word after word, which are at most as many as there are bits.
use Prim.Native.Nat.{◌+◌, ◌*◌}
use native.Mathlib.Omega.{arith}
use Rattle.laws.proofs.CountLaws.{next_word, ones_below_le}
use Rattle.runs.proofs.ones_of.Goals as goal

pub overflow_add-i : goal.overflow_add-i
overflow_add-i c =
    let a = c.args in
    let k = c.loop-k.k in
    omega (
      arith,
      next_word a.s.now a.at k c.run_word.result c.run_word.ensures (omega arith),
      ones_below_le a.s.now a.at (64 * (k + 1)),
      c.loop-k.invariant,
    )

pub loop-k-preserved : goal.loop-k-preserved
loop-k-preserved c =
    let a = c.args in
    omega (arith, next_word a.s.now a.at c.loop-k.k c.run_word.result c.run_word.ensures (omega arith), c.loop-k.invariant)

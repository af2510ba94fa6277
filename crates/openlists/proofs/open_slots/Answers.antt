-- `open_slots` fills one slot after the other.
use native.Mathlib.Omega.{arith}
use Rattle.openlists.proofs.SourceLaws.{source_lt}
use Rattle.openlists.proofs.SlotLaws.{slots_more}
use Rattle.openlists.proofs.open_slots.Goals as goal

pub open_list-numbers-requires : goal.open_list-numbers-requires
open_list-numbers-requires c =
    let h = source_lt c.args.lead c.loop-t.t _ c.requires.1 c.loop-t-test.true in
    rw c.source_of.ensures (omega (arith, h, c.requires.0.few), c.requires.0.each _ h)

pub loop-t-preserved : goal.loop-t-preserved
loop-t-preserved c =
    let filled = rw (c.open_list-numbers.ensures, c.source_of.ensures) at c.put_list.ensures in
    rw filled
    (slots_more _ _ _ c.loop-t.shapes c.loop-t.t (omega (arith, c.requires.0.few)) c.loop-t.invariant)

-- `open_lists` opens them with the lead's first.
use Rattle.openlists.proofs.SlotLaws.{slots_opened}
use Rattle.openlists.proofs.open_lists.Goals as goal

pub returns : goal.returns
returns c =
    let o = c in
    let l = o in
    let b = c in (
      l.lead_of-lead.ensures.0,
      slots_opened _ _ l.lead_of-lead.result _ b.requires.0 l.lead_of-lead.ensures.1
          o.open_slots.new.shapes o.open_slots.ensures b.requires.1 l.lead_of-lead.ensures.0,
    )

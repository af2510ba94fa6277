-- `lead_of` takes each shorter list for the lead: the lead from here on is the lead.
use mathlib.Core.Path.{◌≡◌}
use Prim.Native.Nat.{◌<◌}
use Rattle.rules.specs.Common.{lead_of}
use Rattle.openlists.specs.Places.{place_pages, placed_in}
use Rattle.openlists.proofs.LeadLaws.{lead_on}
use Rattle.openlists.proofs.lead_of.Given as goal

abbrev pub invariant-loop-i : goal.invariant-loop-i
invariant-loop-i l =
    (l.lead < l.k) × (lead_on (place_pages l.card l.places) l.k l.lead l.least l.i ≡ lead_of (placed_in l.card l.places l.k))

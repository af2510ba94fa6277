-- `lead_of` takes each shorter list for the lead: the lead from here on is the lead.
use mathlib.Core.Path.{sym, ◌∙◌}
use Prim.Native.Nat.{◌≤◌, ◌<◌}
use native.Mathlib.Omega.{arith}
use lib.ListN.{length}
use Rattle.openlists.specs.Places.{place_pages, placed_in}
use Rattle.openlists.proofs.LeadLaws.{lead_start, lead_less, lead_more, lead_end}
use Rattle.openlists.proofs.lead_of.Goals as goal
use Rattle.openlists.proofs.lead_of.Goals.{then-n-least, else-n-least}

pub loop-i-init : goal.loop-i-init
unfolding placed_in
loop-i-init c = (
  c.requires.some,
  rw c.length_of-least.ensures
      (lead_start (place_pages c.args.card.now c.args.places.now) c.args.k c.requires.some),
)

pub loop-i-preserved : goal.loop-i-preserved
loop-i-preserved c =
    let l = c.loop-i in
    let h = c.loop-i-test.true in
    let n = c.length_of-n in
    let f = place_pages c.args.card.now c.args.places.now in
    elim c.if-n-least.branch [
      | then-n-least e ↦
          let g : length (f l.i) < l.least = omega (arith, n.ensures, e.if-n-least.true) in
          rw (e.lead-is, e.least-is, n.ensures)
          (h, sym (lead_less f c.args.k l.lead l.least l.i h g) ∙ l.invariant.1)
      | else-n-least e ↦
          let g : l.least ≤ length (f l.i) = omega (arith, n.ensures, e.if-n-least.false) in
          rw (e.lead-is, e.least-is)
          (l.invariant.0, sym (lead_more f c.args.k l.lead l.least l.i h g) ∙ l.invariant.1)
    ]

pub returns : goal.returns
returns c =
    let l = c.loop-i in (
      sym (lead_end (place_pages c.args.card.now c.args.places.now) c.args.k l.lead l.least l.i
          c.loop-i-test.false) ∙ l.invariant.1,
      l.invariant.0,
    )

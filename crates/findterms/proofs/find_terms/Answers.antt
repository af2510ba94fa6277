-- `find_terms` walks from term to term in rising order. The loop's invariant: `Finding`.
use native.Mathlib.Omega.{arith}
use lib.ListN.{length}
use Rattle.cardlaws.proofs.PassedLaws.{accepted_passed}
use Rattle.findlaws.proofs.StartLaws.{finding_first, finding_walks, start_next, finding_more}
use Rattle.findterms.proofs.find_terms.Goals as goal

pub slice_bounds-rest-count : goal.slice_bounds-rest-count
slice_bounds-rest-count c = (accepted_passed c.args.card.now c.requires.0).head.header

pub slice_bounds-rest-start : goal.slice_bounds-rest-start
slice_bounds-rest-start c = (accepted_passed c.args.card.now c.requires.0).head.header

pub loop-next-init : goal.loop-next-init
loop-next-init c =
    finding_first c.args.card.now c.args.terms.now c.requires.0 c.requires.1 c.args.starts.now
    c.least_from-next.result c.least_from-next.ensures

pub blocks_from-rest-requires : goal.blocks_from-rest-requires
blocks_from-rest-requires c =
    let l = c.loop-next in
    finding_walks c.args.card.now c.args.terms.now c.requires.0 c.requires.1 l.starts (length c.args.starts.now) l.t
    l.rest.now c.in-Some.term (rw c.in-Some.is at l.invariant)

pub overflow_sub-card : goal.overflow_sub-card
overflow_sub-card c =
    let l = c.loop-next in
    let e = start_next c.args.card.now c.args.terms.now c.requires.0 c.requires.1 l.starts (length c.args.starts.now)
    l.t l.rest.now c.in-Some.term (rw c.in-Some.is at l.invariant) c.blocks_from-rest.result.now
    c.blocks_from-rest.ensures in
    omega arith

pub overflow_add-t : goal.overflow_add-t
overflow_add-t c =
    let f = rw c.in-Some.is at c.loop-next.invariant in
    omega (arith, f.on_card, (accepted_passed c.args.card.now c.requires.0).few)

pub loop-next-preserved : goal.loop-next-preserved
loop-next-preserved c =
    let l = c.loop-next in
    finding_more c.args.card.now c.args.terms.now c.requires.0 c.requires.1 l.starts (length c.args.starts.now) l.t
    l.rest.now c.in-Some.term (rw c.in-Some.is at l.invariant) c.blocks_from-rest.result.now
    c.blocks_from-rest.ensures c.put_start.new.starts c.least_from-next-in-Some.result c.put_start.ensures
    c.least_from-next-in-Some.ensures

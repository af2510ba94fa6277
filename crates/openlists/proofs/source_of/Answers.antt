-- `source_of` is its definition.
use borrow.Author.Tests.{eq-eqb, ne_eqb, le-leb, lt-leb}
use Rattle.openlists.specs.Places.{source_of}
use Rattle.openlists.proofs.source_of.Goals as goal

pub returns-then-t-eq0 : goal.returns-then-t-eq0
unfolding source_of
returns-then-t-eq0 c = rw (eq-eqb c.args.t 0 c.if-t-eq0.true)

pub returns-then-t-lead : goal.returns-then-t-lead
unfolding source_of
returns-then-t-lead c =
    let a = c.args in
    rw (ne_eqb a.t 0 c.if-t-eq0.false, le-leb a.t a.lead c.if-t-lead.true)

pub returns : goal.returns
unfolding source_of
returns c =
    let a = c.args in
    rw (ne_eqb a.t 0 c.if-t-eq0.false, lt-leb a.t a.lead c.if-t-lead.false)

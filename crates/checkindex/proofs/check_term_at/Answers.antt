-- `check_term_at` gives the refusal: of the length of the block first, and then of the part that it states.
use lib.Dec.{lit≤}
use Rattle.parts.proofs.PlaceLaws.{front_held, front_refused, front_answers}
use Rattle.cardlaws.specs.Terms.{word_refusal}
use Rattle.checkindex.proofs.check_term_at.Goals as goal

pub returns-in_err-check_front : goal.returns-in_err-check_front
returns-in_err-check_front c =
    let a = c.args in
    front_refused 44 a.at a.s.now c.check_front.result c.check_front.ensures (word_refusal a.version a.n)
    c.from_residual.result c.in_err-check_front.field-0.0 c.in_err-check_front.was c.from_residual.ensures

pub part_at-requires : goal.part_at-requires
part_at-requires c =
    let a = c.args in
    front_held 44 a.at a.s.now c.check_front.result c.check_front.ensures (lit≤ tt) c.requires
    c.in_ok-check_front.field-0 c.in_ok-check_front.was

pub returns : goal.returns
returns c =
    let a = c.args in
    front_answers 44 a.at a.s.now c.check_front.result c.check_front.ensures (word_refusal a.version a.n)
    c.part_at.result.now c.check_term_below.result c.in_ok-check_front.field-0 c.in_ok-check_front.was
    c.part_at.ensures c.check_term_below.ensures

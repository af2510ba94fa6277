-- `check_list_at` gives the refusal: of the length of the block first, and then of the part that it states.
use lib.Dec.{lit≤}
use Rattle.rules.specs.ReadList.{part_refusal}
use Rattle.parts.proofs.PlaceLaws.{front_held, front_refused, front_answers}
use Rattle.checkterm.proofs.check_list_at.Goals as goal

pub returns-in_err-check_front : goal.returns-in_err-check_front
returns-in_err-check_front c =
    let a = c.args in
    front_refused 13 a.at a.block.now c.check_front.result c.check_front.ensures (part_refusal a.version)
    c.from_residual.result c.in_err-check_front.field-0.0 c.in_err-check_front.was c.from_residual.ensures

pub part_at-requires : goal.part_at-requires
part_at-requires c =
    let a = c.args in
    front_held 13 a.at a.block.now c.check_front.result c.check_front.ensures (lit≤ tt) c.requires
    c.in_ok-check_front.field-0 c.in_ok-check_front.was

pub returns : goal.returns
returns c =
    let a = c.args in
    front_answers 13 a.at a.block.now c.check_front.result c.check_front.ensures (part_refusal a.version)
    c.part_at.result.now c.check_part.result c.in_ok-check_front.field-0 c.in_ok-check_front.was
    c.part_at.ensures c.check_part.ensures

-- `refuse_rest` gives the card's refusal, or the one of the questions where the card has none.
use mathlib.Core.Path.{sym}
use Rattle.rules.specs.Verdict.{Question}
use Rattle.rules.specs.Index.{index_refusal}
use Rattle.laws.proofs.RefusalLaws.{and_then_next, handed_on, went_on}
use Rattle.lookup.proofs.refuse_rest.Goals as goal

pub returns-in_err-check_index : goal.returns-in_err-check_index
returns-in_err-check_index c =
    handed_on c.check_index.result (index_refusal c.args.card.now) c.check_index.ensures c.from_residual.result Question
    c.in_err-check_index.field-0.0 c.in_err-check_index.was c.from_residual.ensures

pub returns : goal.returns
returns c =
    let q = index_refusal c.args.card.now in
    sym (and_then_next q Question
    (went_on c.check_index.result q c.check_index.ensures c.in_ok-check_index.field-0 c.in_ok-check_index.was))

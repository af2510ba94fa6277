use Rattle.std.proofs.Common.{arith}
use Rattle.selectlaws.proofs.ByteLaws.{doubled}
use Rattle.selection.proofs.summed.Goals as goal

pub returns : goal.returns
returns c =
    let four = c.before in
    let two = four.before in
    doubled two.args.counts two.wrapping_add_u64-two.result four.wrapping_add_u64-four.result
    c.wrapping_add_u64.result (omega arith)
    two.wrapping_add_u64-two.ensures.value four.wrapping_add_u64-four.ensures.value c.wrapping_add_u64.ensures.value

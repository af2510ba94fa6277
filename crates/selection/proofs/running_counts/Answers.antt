use Rattle.std.proofs.Common.{◌≡◌, ℕ, ◌+◌, ◌*◌, ◌%◌, ◌^◌, ap, ◌∙◌, arith, lit<}
use Rattle.selectlaws.specs.ByteCounts.{each, byte_ones}
use Rattle.selectlaws.proofs.ByteLaws.{running_is}
use Rattle.selection.proofs.running_counts.Goals as goal

pub returns : goal.returns
returns c =
    let x = c.args.x in
    let e : c.byte_counts.result ≡ byte_ones 8 x + 0 = omega (arith, c.byte_counts.ensures) in
    c.summed.ensures ∙ ap (λ (n : ℕ). n * each 8 1 % 2 ^ 64) e ∙ running_is 8 0 x (lit< tt)

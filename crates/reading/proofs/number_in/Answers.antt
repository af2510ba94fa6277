-- `number_in` reads what is stored, or nothing for number 0.
use mathlib.Core.Path.{sym, ap, ◌∙◌}
use native.Mathlib.Omega.{arith}
use Rattle.readlaws.specs.Open.{number_at}
use Rattle.readlaws.proofs.FormLaws.{number_first, number_later}
use Rattle.reading.proofs.number_in.Goals as goal

pub returns-then-i-eq0 : goal.returns-then-i-eq0
returns-then-i-eq0 c =
    let s = c.args.block.now in
    sym (ap (number_at s) c.if-i-eq0.true ∙ number_first s)

pub returns : goal.returns
returns c =
    let a = c.args in
    c.read_u32.ensures.0 ∙ sym (number_later a.block.now a.i (omega arith))

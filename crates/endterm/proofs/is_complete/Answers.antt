-- `is_complete` compares the pages, the positions and their U with what was announced.
use mathlib.Core.Path.{sym}
use Rattle.sessionlaws.proofs.AnswerLaws.{complete_laid, complete_filled, complete_last}
use Rattle.endterm.proofs.is_complete.Goals as goal

pub returns-then-s : goal.returns-then-s
returns-then-s c = sym (complete_laid c.args.s c.if-s.true)

pub returns-then-s-2 : goal.returns-then-s-2
returns-then-s-2 c =
    let e = c in
    sym (complete_filled e.args.s e.if-s.false c.if-s-2.true)

pub returns : goal.returns
returns c =
    let f = c in
    let e = f in
    sym (complete_last e.args.s e.if-s.false f.if-s-2.false)

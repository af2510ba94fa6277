-- `is_live` asks what a session is marked and how far it is laid, and last whether it was announced so.
use mathlib.Core.Path.{sym, ap, ◌∙◌}
use Rattle.std.specs.Result.{is_ok}
use Rattle.sessionlaws.proofs.LiveLaws.{live_unmarked, live_laid, live_filled, live_last}
use Rattle.sessions.proofs.is_live.Goals as goal

pub returns-then-s-ne1 : goal.returns-then-s-ne1
returns-then-s-ne1 c = sym (live_unmarked c.args.s c.if-s-ne1.true)

pub returns-then-s : goal.returns-then-s
returns-then-s c = sym (live_laid c.args.s c.if-s.true)

pub returns-then-s-2 : goal.returns-then-s-2
returns-then-s-2 c = sym (live_filled c.args.s c.if-s-2.true)

pub returns : goal.returns
returns c =
    let s = c.args.s in
    c.is_ok.ensures.value
    ∙ ap is_ok c.announce.ensures
    ∙ sym (live_last s c.if-s-ne1.false c.if-s.false c.if-s-2.false)

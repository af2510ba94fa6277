-- `clear` lays zeros over the first bytes of the room.
use Rattle.std.proofs.Common.{drop, ◌++◌, sym, ap, ◌∙◌}
use Rattle.std.proofs.lemmas.List.{length-take-le}
use Rattle.sessionlaws.proofs.FrameLaws.{zeros, zeros_laid}
use Rattle.sessions.proofs.clear.Goals as goal

pub returns : goal.returns
returns c =
    let room = c.args.room.now in
    let n = length-take-le c.args.size room c.requires in
    ap (λ b. b ++ drop c.args.size room) (c.fill.ensures.after (λ y e. e) ∙ ap zeros n)
    ∙ sym (zeros_laid c.args.size room)

-- A session's answer is what a writer is told, with the session beside it.
use mathlib.Core.Path.{ap}
use Rattle.telling.specs.Told.{Told, ToldStream}
use Rattle.telling.proofs.HostStreamedFromStreamed.from.Goals as goal

pub returns : goal.returns
returns c room =
    ap {B = ToldStream} (λ (t : Told). record {
      refusal = t.refusal;
      length = t.length;
      stream = c.args.w.stream;
      room = t.room;
    }) (c.from-refusal.ensures room)

-- `put_pair` puts nothing for no starts, and nothing where there is no room.
use native.Mathlib.Omega.{arith}
use Rattle.trial.proofs.OneLaws.{pair_none, pair_put, pair_left}
use Rattle.trial.proofs.put_pair.Goals as goal
use Rattle.trial.proofs.put_pair.Lts.{then-found-room, else-found-room}

pub returns-then-count-eq0 : goal.returns-then-count-eq0
returns-then-count-eq0 c a e = rw (c.if-count-eq0.true, ← e) (pair_none a c.args.page c.args.room.now)

pub returns : goal.returns
returns c a e =
    let b = c in
    elim c.if-found-room.branch [
      | then-found-room t ↦
          rw (t.room-is, ← e) (pair_put a b.args.page b.args.count (omega (arith, c.if-count-eq0.false)) b.args.room.now)
      | else-found-room t ↦
          rw (t.room-is, ← e) (pair_left a b.args.page b.args.count (omega (arith, c.if-count-eq0.false)) b.args.room.now
          (omega (arith, e, t.if-found-room.false)))
    ]

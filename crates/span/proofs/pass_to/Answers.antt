-- `pass_to` stays where n are passed already, and else passes the last of the n.
use mathlib.Core.Path.{sym}
use native.Mathlib.Omega.{arith}
use Rattle.span.proofs.pass_to.Goals as goal

pub returns-then-n-w : goal.returns-then-n-w
returns-then-n-w c = record { on = c.requires.0; at = sym c.if-n-w.true }

pub place_near-place-requires : goal.place_near-place-requires
place_near-place-requires c =
    let p = c.requires in
    let more = c.if-n-w.false in
    (p.0.opened, omega (arith, p.2, p.1, more), p.0.counted, omega (arith, p.1, more))

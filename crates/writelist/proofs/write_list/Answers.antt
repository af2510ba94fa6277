use mathlib.Core.Path.{sym, ap₂, ◌∙◌}
use native.Mathlib.Omega.{arith}
use lib.ListN.{length}
use Rattle.rules.specs.Verdict.{Accepted}
use Rattle.rules.specs.List.{two_runs}
use Rattle.rules.specs.Write.{Made}
use Rattle.listlaws.proofs.RisingLaws.{rising_length}
use Rattle.filllaws.proofs.WriteLaws.{write_limit, write_lists, write_room}
use Rattle.filllaws.proofs.WriteLaws.{write_laid, u_of, n_of, end_of, fitting_of}
use Rattle.writelist.proofs.write_list.Goals as goal

pub returns-then-u-gt-LIMIT : goal.returns-then-u-gt-LIMIT
returns-then-u-gt-LIMIT c =
    let a = c.args in
    sym (write_limit a.u a.list.now a.room.now c.if-u-gt-LIMIT.true)

pub returns-then-not-rises : goal.returns-then-not-rises
returns-then-not-rises c =
    let k = c in
    let a = k.args in
    sym (write_lists a.u a.list.now a.room.now (omega arith)
    (sym k.rises.ensures ∙ c.if-not-rises.true))

pub shape_of-g-requires : goal.shape_of-g-requires
shape_of-g-requires c =
    let k = c in
    let a = k.args in
    let r = sym k.rises.ensures ∙ c.if-not-rises.false in
    (omega (arith, rising_length 0 a.u a.list.now r (omega arith)), omega arith)

pub returns-then-room-g : goal.returns-then-room-g
returns-then-room-g c =
    let g = c in
    let k = g in
    let a = k.args in
    let xs = a.list.now in
    let r = sym k.rises.ensures ∙ g.if-not-rises.false in
    let e = end_of two_runs a.u (length xs) g.shape_of-g.result g.shape_of-g.ensures in
    sym (write_room a.u xs a.room.now (omega arith) r (omega arith))

pub fill-requires : goal.fill-requires
fill-requires c =
    let g = c in
    let k = g in
    let a = k.args in
    let xs = a.list.now in
    let r = sym k.rises.ensures ∙ g.if-not-rises.false in
    let e = g.shape_of-g.ensures in (
      fitting_of two_runs a.u (length xs) g.shape_of-g.result e a.room.now
          (omega (arith, rising_length 0 a.u xs r (omega arith))) (omega arith) (omega arith),
      sym (n_of two_runs a.u (length xs) g.shape_of-g.result e),
      rw (u_of two_runs a.u (length xs) g.shape_of-g.result e) r,
    )

pub returns : goal.returns
returns c =
    let f = c in
    let g = f in
    let k = g in
    let a = k.args in
    let xs = a.list.now in
    let r = sym k.rises.ensures ∙ g.if-not-rises.false in
    let e = end_of two_runs a.u (length xs) g.shape_of-g.result g.shape_of-g.ensures in
    let u = u_of two_runs a.u (length xs) g.shape_of-g.result g.shape_of-g.ensures in
    let room = rw u at f.fill.ensures in
    ap₂ {C = Made} (λ n l. record {
      refusal = Accepted;
      size = n;
      room = l;
    }) e room ∙ sym (write_laid a.u xs a.room.now (omega arith) r (omega arith))

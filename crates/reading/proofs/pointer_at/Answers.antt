use native.Mathlib.Omega.{arith}
use Rattle.readlaws.proofs.ReadLaws.{open_reads, pointers_few}
use Rattle.readlaws.proofs.FormLaws.{number_points}
use Rattle.reading.proofs.pointer_at.Goals as goal

pub number_in-requires : goal.number_in-requires
number_in-requires c =
    let start = c.before.before in
    let a = start.args in
    let r = open_reads a.block.now a.g start.requires.0 in (
      omega (arith, start.requires.1, r.low, r.up, r.full),
      omega (arith, start.requires.1, pointers_few a.block.now a.g start.requires.0),
    )

pub returns : goal.returns
returns c =
    let start = c.before.before.before in
    let a = start.args in
    rw c.number_in.ensures (number_points a.block.now a.g start.requires.0 a.i start.requires.1)

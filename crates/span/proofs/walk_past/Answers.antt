-- `walk_past` stands behind the one of the element that it has read.
use native.Mathlib.Omega.{arith}
use Rattle.rules.specs.ReadList.{list_u, decode}
use Rattle.readlaws.proofs.ReadLaws.{open_reads, one_ranks}
use Rattle.seeklaws.proofs.FirstLaws.{rising_below}
use Rattle.walklaws.proofs.OpenLaws.{open_U, open_length, open_rising}
use Rattle.span.proofs.WalkLaws.{walk_past}
use Rattle.span.proofs.walk_past.Goals as goal

pub overflow_add-result : goal.overflow_add-result
overflow_add-result c =
    let a = c.args in
    let p = c.requires in
    let r = open_reads a.block.now a.g p.0 in
    omega (arith, (one_ranks a.block.now a.g p.0 a.place a.rank p.1).number)

pub overflow_add-result-2 : goal.overflow_add-result-2
overflow_add-result-2 c =
    let a = c.args in
    let p = c.requires in
    let s = a.block.now in
    let r = open_reads s a.g p.0 in
    let k = one_ranks s a.g p.0 a.place a.rank p.1 in
    omega (
      arith,
      c.value_at.ensures,
      open_U s a.g p.0,
      rising_below 0 (list_u s) (decode s)
          (open_rising s a.g p.0) a.rank (omega (arith, k.number, open_length s a.g p.0)),
    )

pub overflow_add-result-3 : goal.overflow_add-result-3
overflow_add-result-3 c =
    let a = c.args in
    let p = c.requires in
    let r = open_reads a.block.now a.g p.0 in
    omega (arith, (one_ranks a.block.now a.g p.0 a.place a.rank p.1).inside)

pub returns : goal.returns
returns c =
    let a = c.args in
    let p = c.requires in
    walk_past a.block.now a.g p.0 a.rank a.place c.value_at.result p.1 c.value_at.ensures

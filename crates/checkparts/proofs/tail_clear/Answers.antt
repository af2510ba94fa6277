-- `tail_clear` says whether the bits from a place on are 0, by what is left of its word.
use Prim.Native.Nat.{◌/◌, ◌%◌, ◌^◌}
use native.Mathlib.Omega.{arith}
use borrow.Author.Tests.{eqb-true, eqb-false}
use Rattle.checklaws.proofs.SpareLaws.{shr_tail, tail_shr}
use Rattle.checkparts.proofs.tail_clear.Goals as goal

pub returns : goal.returns
returns c =
    let a = c.args in
    let x = c.run_word.result in (
      λ t. shr_tail a.s.now a.at a.from x c.run_word.ensures (omega arith)
          (eqb-true (x / 2 ^ (a.from % 64)) 0 t),
      λ t z. eqb-false (x / 2 ^ (a.from % 64)) 0 t
          (tail_shr a.s.now a.at a.from x c.run_word.ensures (omega arith) z),
    )

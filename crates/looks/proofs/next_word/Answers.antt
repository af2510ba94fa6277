-- `next_word` looks at the next word.
use native.Mathlib.Omega.{arith}
use Prim.Native.Nat.{◌+◌}
use Rattle.walklaws.proofs.OpenLaws.{words_few, look_fits}
use Rattle.looks.proofs.next_word.Goals as goal

pub overflow_add-next : goal.overflow_add-next
overflow_add-next c =
    let start = c in
    let a = start.args in
    record { fits = omega (arith, words_few a.s.now a.g start.requires.0 (a.k + 1) start.requires.1) }

pub look-requires : goal.look-requires
look-requires c =
    let start = c in
    let a = start.args in
    look_fits a.s.now a.g start.requires.0 (a.k + 1) a.looks.now start.requires.1
    (omega (arith, start.requires.2))

-- `high_of` gives the high part of the page behind the mark, and that of a fresh cursor is 0.
use mathlib.Core.Path.{ap}
use Prim.Native.Nat.{ℕ, ◌/◌, ◌^◌}
use Rattle.walklaws.proofs.CursorLaws.{own_of}
use Rattle.starting.proofs.high_of.Goals as goal

pub overflow_sub-page : goal.overflow_sub-page
overflow_sub-page c = (own_of c.args.c.mark).marked

pub returns : goal.returns
returns c =
    let a = c.args in
    ap (λ (m : ℕ). m / 2 ^ a.g.w) (own_of a.c.mark).page

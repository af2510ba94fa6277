use mathlib.Core.Path.{◌≡◌, ◌∙◌}
use Prim.Native.Nat.{◌+◌, ◌-◌}
use native.Mathlib.Omega.{arith}
use Rattle.std.proofs.lemmas.List.{places}
use Rattle.rules.specs.Bytes.{be_at}
use Rattle.numbers.proofs.read_u64.Goals as goal

pub returns : goal.returns
unfolding be_at
returns c =
    let a = c.args in
    let w = rw c.unwrap.ensures at c.try_into.ensures.1 in
    let n : a.at + 8 - a.at ≡ 8 = omega arith in
    c.from_be_bytes.ensures ∙ rw (w.same, n) (grind (arith, places))

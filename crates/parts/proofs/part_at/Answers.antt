-- `part_at` gives as many bytes as are stated there.
use mathlib.Core.Path.{◌≡◌, ap}
use Prim.Native.Nat.{ℕ, ◌+◌, ◌-◌}
use native.Mathlib.Omega.{arith}
use lib.ListN.{take, drop}
use Rattle.rules.specs.Bytes.{be_at}
use Rattle.parts.proofs.part_at.Goals as goal

pub returns : goal.returns
returns c =
    let a = c.args in
    let n = c.read_u32 in
    let e : a.at + n.result - a.at ≡ be_at 4 a.s.now a.at = omega (arith, n.ensures.0) in
    ap (λ (m : ℕ). take m (drop a.at a.s.now)) e

use mathlib.Core.Path.{◌≡◌, refl}
use Prim.Native.Nat.{ℕ, zero, suc, ◌*◌, ◌<◌}
use native.Mathlib.Omega.{arith}
use Rattle.readlaws.specs.Open.{jump_from}
use Rattle.byrank.proofs.led_to.Goals as goal

jump_map : (zeros v i : ℕ) → zeros ≡ 0 → 256 * i ≡ jump_from zeros v i
unfolding jump_from
jump_map zeros v i e = rw e

jump_runs : (zeros v i : ℕ) → 0 < zeros → v ≡ jump_from zeros v i
unfolding jump_from
jump_runs zero v i h = absurd (omega arith)
jump_runs (suc k) v i h = refl

pub returns-then-zeros-eq0 : goal.returns-then-zeros-eq0
returns-then-zeros-eq0 c = let a = c.args in jump_map a.zeros a.v a.i c.if-zeros-eq0.true

pub returns : goal.returns
returns c = let a = c.args in jump_runs a.zeros a.v a.i (omega (arith, c.if-zeros-eq0.false))

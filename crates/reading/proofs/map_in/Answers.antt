-- `map_in` gives the shape of a bitmap: its words are the last of the block.
use mathlib.Core.Path.{◌≡◌}
use Prim.Native.Nat.{ℕ, ◌+◌, ◌-◌, ◌*◌, ◌/◌, ◌≤◌}
use native.Mathlib.Omega.{arith}
use Rattle.rules.specs.Runs.{words_for}
use Rattle.rules.specs.List.{map_at, map_size}
use Rattle.shape.specs.declared.Shape.{Shape}
use Rattle.shape.specs.Shape.{map_width, map_shape}
use Rattle.reading.proofs.map_in.Goals as goal

module _ (u n end : ℕ) (full : end ≡ map_size u) where
  abbrev bytes : ℕ
  bytes = 8 * ((u + 63) / 64)

  fits : 8 * ((u + 63) / 64) ≤ end
  unfolding map_size words_for
  fits = omega (arith, full)

  starts : end - bytes ≡ map_at u
  unfolding map_size words_for
  starts = omega (arith, full)

  abbrev ending : ℕ → ℕ → Shape
  ending at to = record { u = u; n = n; w = map_width; bits = u; lower = at; upper = at; end = to }

  shaped : ending (end - 8 * ((u + 63) / 64)) end ≡ map_shape u n
  unfolding map_shape
  shaped = rw (starts, full)

pub overflow_sub-at : goal.overflow_sub-at
overflow_sub-at c = fits c.args.u c.args.n _ c.requires.0

pub returns : goal.returns
returns c = shaped c.args.u c.args.n _ c.requires.0

-- `map_shape` gives the shape of a bitmap: each field is worked out as its definition says.
use mathlib.Core.Path.{refl}
use Rattle.rules.specs.Runs.{words_for}
use Rattle.rules.specs.List.{map_at, map_size}
use Rattle.shape.specs.Shape.{map_shape}
use Rattle.shape.proofs.map_shape.Goals as goal

pub returns : goal.returns
unfolding map_shape map_size map_at words_for
returns c = refl

-- The geometry of a list block [01 One list; 02 f].
--
--   shape_of U n   w, the upper run's bits, and where the runs start and the block ends; without runs for n = 0
--   map_width      what stands for w in the shape of a bitmap, which has no low parts
--   map_shape U n  its bits, where they start as the one run, and where the block ends
--   form_shape f U n  the shape of a list in that form
use Rattle.std.specs.Prelude.{ℕ, zero, suc, ◌+◌}
use Rattle.rules.specs.Limits.{list_header}
use Rattle.rules.specs.List.{width, zeros, lower_at, upper_at, size, map_at, map_size, Form, two_runs, bitmap}
use Rattle.shape.specs.declared.Shape.{Shape}

unfoldable pub shape_of : ℕ → ℕ → Shape
shape_of U zero = record {
  u = U;
  n = 0;
  w = 0;
  bits = 0;
  lower = list_header;
  upper = list_header;
  end = list_header;
}
shape_of U (suc m) =
    let n : ℕ = suc m in
    let w : ℕ = width U n in
    record {
      u = U;
      n = n;
      w = w;
      bits = n + zeros U w;
      lower = lower_at U w;
      upper = upper_at U n w;
      end = size U n;
    }

abbrev pub map_width : ℕ
map_width = 64

unfoldable pub map_shape : ℕ → ℕ → Shape
map_shape U n = record {
  u = U;
  n = n;
  w = map_width;
  bits = U;
  lower = map_at U;
  upper = map_at U;
  end = map_size U;
}

abbrev pub form_shape : Form → ℕ → ℕ → Shape
form_shape two_runs U n = shape_of U n
form_shape bitmap U n = map_shape U n

-- Laws of what writing a list leaves, one for each answer, and of the shape with which it is written.
use mathlib.Core.Bool.{true, false}
use mathlib.Core.Path.{◌≡◌, sym, ap, ap₂, ◌∙◌}
use mathlib.Core.List.{List}
use Prim.Native.Nat.{ℕ, ◌≤◌, ◌<◌}
use native.Mathlib.Omega.{arith}
use borrow.Author.Tests.{lt-ltb, le-ltb}
use lib.ListN.{length}
use Rattle.rules.specs.Verdict.{Accepted, Limit, Room, Lists}
use Rattle.rules.specs.Limits.{limit}
use Rattle.rules.specs.List.{rising, size, block, Form, two_runs, bitmap, form_size}
use Rattle.rules.specs.Write.{refused, laid, stored, write_list}
use Rattle.shape.specs.declared.Shape.{Shape}
use Rattle.shape.specs.Shape.{map_width, form_shape}
use Rattle.shape.proofs.ShapeLaws.{form_shape_u, form_shape_n, form_shape_end, form_wide, form_narrow}
use Rattle.listlaws.proofs.BlockLaws.{block_size}
use Rattle.filllaws.specs.Filling.{FittingAs}

-- ---- the answers

module _ (U : ℕ) (xs room : List ℕ) where
  pub write_limit : limit < U → write_list U xs room ≡ refused Limit room
  unfolding write_list
  write_limit h = rw (lt-ltb limit U h)

  module _ (within : U ≤ limit) where
    pub write_lists : rising 0 U xs ≡ false → write_list U xs room ≡ refused Lists room
    unfolding write_list
    write_lists r = rw (le-ltb limit U within, r)

    module _ (rises : rising 0 U xs ≡ true) where
      stored_is : write_list U xs room ≡ stored (block U xs) room
      unfolding write_list
      stored_is = rw (le-ltb limit U within, rises)

      pub write_room : length room < size U (length xs) → write_list U xs room ≡ refused Room room
      unfolding stored
      write_room h = stored_is ∙ rw (lt-ltb (length room) (length (block U xs)) (omega (arith, block_size U xs)))

      pub write_laid : size U (length xs) ≤ length room → write_list U xs room ≡ record {
        refusal = Accepted;
        size = size U (length xs);
        room = laid (block U xs) room;
      }
      unfolding stored
      write_laid h =
          stored_is ∙ rw (le-ltb (length room) (length (block U xs)) (omega (arith, block_size U xs)), block_size U xs)

-- ---- the shape

module _ (o : Form) (U n : ℕ) (g : Shape) (e : g ≡ form_shape o U n) where
  pub u_of : g.u ≡ U
  u_of = ap (λ h. h.u) e ∙ form_shape_u o U n

  pub n_of : g.n ≡ n
  n_of = ap (λ h. h.n) e ∙ form_shape_n o U n

  pub end_of : g.end ≡ form_size o U n
  end_of = ap (λ h. h.end) e ∙ form_shape_end o U n

  pub shape_of_lem : g ≡ form_shape o g.u g.n
  shape_of_lem = e ∙ sym (ap₂ (form_shape o) u_of n_of)

  pub fitting_of : (room : List ℕ) → n ≤ U → U ≤ limit → g.end ≤ length room → FittingAs o g room
  fitting_of room below within long = record {
    shape = shape_of_lem;
    below = omega (arith, u_of, n_of);
    within = omega (arith, u_of);
    room = long;
  }

  -- the width tells the form
  pub bitmap_of : g.w ≡ map_width → o ≡ bitmap
  bitmap_of h = form_wide o U n (sym (ap (λ g. g.w) e) ∙ h)

  pub runs_of : (g.w ≡ map_width → ⊥) → o ≡ two_runs
  runs_of d = form_narrow o U n (λ h. d (ap (λ g. g.w) e ∙ h))

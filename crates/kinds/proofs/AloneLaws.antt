-- One list opened by itself: its numbers are the one row of a query over its own bytes.
use mathlib.Core.Path.{◌≡◌, refl, sym, ap}
use mathlib.Core.List.{List}
use Prim.Native.Nat.{ℕ, zero, suc, ◌-◌, ◌<◌}
use native.Mathlib.Omega.{arith}
use lib.ListN.{length}
use lib.Seq.{take-length}
use Rattle.rules.specs.ReadList.{list_u, list_n, form_at, decode}
use Rattle.maplaws.specs.Maps.{FormValid}
use Rattle.shape.specs.declared.Shape.{Shape}
use Rattle.shape.specs.Shape.{form_shape}
use Rattle.readlaws.specs.Open.{FormOpen}
use Rattle.readlaws.proofs.FormLaws.{valid_opens, form_reads}
use Rattle.querylaws.specs.Lists.{part_at, form_in, shape_in, pages_at, bound_in, ListAt}
use Rattle.openlists.specs.Places.{bytes_of, numbers_of}
use Rattle.openlists.proofs.SlotLaws.{shape_ends}
use Rattle.kinds.specs.Alone.{OpenedAlone}

-- all of the bytes
pub all_bytes : (b : List ℕ) → bytes_of b 0 (length b) ≡ b
all_bytes b =
    let e : length b - 0 ≡ length b = omega arith in
    rw e (take-length b)

module _ (b : List ℕ) (a : FormValid (form_at b) b) where
  abbrev shape : Shape
  shape = form_shape (form_at b) (list_u b) (list_n b)

  abbrev numbers : List ℕ
  numbers = numbers_of 0 (length b) (form_shape (form_at b) (list_u b) (list_n b))

  opens : FormOpen (form_at b) b shape
  opens = valid_opens (form_at b) b shape a refl

  part_all : part_at b numbers 0 ≡ b
  unfolding part_at
  part_all = all_bytes b

  -- the block ends where its shape says
  shape_own : shape_in numbers 0 ≡ shape
  unfolding shape_in
  shape_own =
      let e : length b - 0 ≡ length b = omega arith in
      rw (e, shape_ends (form_at b) b a)

  alone_list : (i : ℕ) → i < 1 → ListAt b numbers i
  unfolding form_in
  alone_list zero h = record {
    room = omega arith;
    few = omega arith;
    starts = omega arith;
    ends = omega arith;
    opened = rw (part_all, shape_own) opens;
    bound = rw part_all (unfold bound_in in sym (form_reads (form_at b) b shape opens).u_is);
  }
  alone_list (suc i) h = absurd (omega arith)

  pub alone_opened : OpenedAlone b numbers
  alone_opened = record {
    lists = record { some = omega arith; few = omega arith; each = alone_list };
    pages = unfold pages_at in ap decode part_all;
  }

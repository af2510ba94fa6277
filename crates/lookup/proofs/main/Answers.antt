-- `main` lends parts of its rooms as long as what was read into them, or laid.
use mathlib.Core.Path.{◌≡◌, sym}
use mathlib.Core.List.{List}
use Prim.Native.Nat.{ℕ, ◌≤◌}
use lib.ListN.{length}
use Rattle.std.proofs.lemmas.List.{length-take-le}
use Rattle.rules.specs.Write.{laid}
use Rattle.laws.proofs.RoomLaws.{laid_front}
use Rattle.lookup.proofs.main.Goals as goal

laid_within : (b d : List ℕ) {r : ℕ} {e : List ℕ} → (e ≡ laid b d) × (r ≡ length b) → r ≤ length e
laid_within b d p = rw (p.0, p.1) (laid_front b d)

pub slice_bounds-text-end : goal.slice_bounds-text-end
slice_bounds-text-end c = laid_within _ _ c.answer_text-size.ensures

pub slice_bounds-write_all-end : goal.slice_bounds-write_all-end
slice_bounds-write_all-end c =
    sym (length-take-le c.answer_text-size.result c.answer_text-size.new.text (laid_within _ _ c.answer_text-size.ensures))

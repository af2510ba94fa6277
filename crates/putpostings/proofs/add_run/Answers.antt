-- `add_run` lays one page, or any number of pages by the layout worked out again, which is the same.
use mathlib.Core.Path.{refl, ap}
use native.Mathlib.Omega.{arith}
use Rattle.putpostings.proofs.add_run.Goals as goal

pub add_word-requires : goal.add_word-requires
add_word-requires c =
    let l = c.requires in
    record {
      layout = refl;
      goes_on = l.goes_on;
      may = l.may;
      fits = omega (arith, ap (λ h. h.size) l.layout, l.fits);
    }

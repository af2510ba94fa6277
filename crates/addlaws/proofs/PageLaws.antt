-- Laws of pages laid into a block in either form: its width tells the form, and what that form is asked.
use mathlib.Core.Bool.{true}
use mathlib.Core.Path.{◌≡◌, sym, ap, ◌∙◌, subst}
use mathlib.Core.List.{List, [], ◌∷◌}
use Prim.Native.Nat.{ℕ, ◌≤◌}
use lib.ListN.{length}
use Rattle.rules.specs.List.{rising, map_at, Form, bitmap}
use Rattle.rules.specs.InPlace.{added, map_added, form_added}
use Rattle.shape.specs.declared.Shape.{Shape}
use Rattle.shape.specs.Shape.{map_width, map_shape, form_shape}
use Rattle.filllaws.specs.Filling.{FittingAs, Fitting}
use Rattle.filllaws.proofs.SideLaws.{end_is}
use Rattle.filllaws.proofs.WriteLaws.{bitmap_of, runs_of}
use Rattle.addlaws.specs.Adding.{MapAsked, SlotAs, Slot}
use Rattle.addlaws.proofs.OneLaws.{rising_one}

map_upper : (g : Shape) → g ≡ map_shape g.u g.n → g.upper ≡ map_at g.u
unfolding map_shape
map_upper g e = ap (λ h. h.upper) e

-- ---- a block

module _ {o : Form} {g : Shape} {d : List ℕ} (f : FittingAs o g d) where
  pub fits_map : g.w ≡ map_width → FittingAs bitmap g d
  fits_map e = subst (λ (p : Form). FittingAs p g d) (bitmap_of o g.u g.n g f.shape e) f

  pub fits_runs : (g.w ≡ map_width → ⊥) → Fitting g d
  fits_runs e = subst (λ (p : Form). FittingAs p g d) (runs_of o g.u g.n g f.shape e) f

  pub map_asked : g.w ≡ map_width → (xs : List ℕ) → rising 0 g.u xs ≡ true → MapAsked g.u g.upper xs d
  map_asked e xs r =
      let m = fits_map e in
      record {
        at_is = map_upper g m.shape;
        rises = r;
        room = subst (λ (k : ℕ). k ≤ length d) (end_is g d m) m.room;
      }

-- ---- what is laid

module _ (o : Form) (g : Shape) (shape : g ≡ form_shape o g.u g.n) (i : ℕ) (xs d e : List ℕ) where
  pub laid_map : g.w ≡ map_width → e ≡ map_added g.u xs d → e ≡ form_added o g.u g.n i xs d
  laid_map w l =
      subst (λ (p : Form). e ≡ form_added p g.u g.n i xs d) (sym (bitmap_of o g.u g.n g shape w)) l

  pub laid_runs : (g.w ≡ map_width → ⊥) → e ≡ added g.u g.n i xs d → e ≡ form_added o g.u g.n i xs d
  laid_runs w l =
      subst (λ (p : Form). e ≡ form_added p g.u g.n i xs d) (sym (runs_of o g.u g.n g shape w)) l

-- ---- a place for one page

module _ {o : Form} {lo up w i x : ℕ} {d : List ℕ} {g : Shape} (s : SlotAs o lo up w i x d g) where
  pub place_map : w ≡ map_width → (xs : List ℕ) → xs ≡ x ∷ [] → MapAsked g.u up xs d
  place_map e xs one =
      subst (λ (k : ℕ). MapAsked g.u k xs d) s.upper_is
      (map_asked s.fitting (s.width_is ∙ e) xs (rw one (rising_one x g.u s.below)))

  pub place_runs : (w ≡ map_width → ⊥) → Slot lo up w i x d g
  place_runs e = record {
    fitting = fits_runs s.fitting (λ h. e (sym s.width_is ∙ h));
    lower_is = s.lower_is;
    upper_is = s.upper_is;
    width_is = s.width_is;
    number = s.number;
    below = s.below;
  }

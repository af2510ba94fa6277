-- Laws of bytes changed from a place on, as a part that is lent and comes back leaves them.
use mathlib.Core.Path.{◌≡◌, ap, ◌∙◌}
use mathlib.Core.List.{List, ◌++◌}
use Prim.Native.Nat.{ℕ, ◌-◌}
use borrow.Rule.Slice.PartMut.{mid_of, put_mid}
use lib.ListN.{length, take, drop}
use lib.Seq.{take_at, drop_at}
use Rattle.rules.specs.InPlace.{from}
use Rattle.wordlaws.proofs.PieceLaws.{tail_part, tail_back}

-- a part that runs to the end is changed by f
pub part_from : (p : ℕ) (f : List ℕ → List ℕ) (s ys : List ℕ) → ys ≡ f (mid_of p (length s - p) s)
    → put_mid p (length s - p) s ys ≡ from p f s
unfolding from
part_from p f s ys e = tail_back p s ys ∙ ap (λ (t : List ℕ). take p s ++ t) (e ∙ ap f (tail_part p s))

-- a part that starts at a seam of the list, and the list when that part is back
module _ (a b s : List ℕ) (is : s ≡ a ++ b) (p : ℕ) (at : length a ≡ p) where
  pub seam_part : mid_of p (length s - p) s ≡ b
  seam_part = tail_part p s ∙ ap (drop p) is ∙ drop_at a b p at

  pub seam_back : (ys : List ℕ) → put_mid p (length s - p) s ys ≡ a ++ ys
  seam_back ys = tail_back p s ys ∙ ap (λ (t : List ℕ). t ++ ys) (ap (take p) is ∙ take_at a b p at)

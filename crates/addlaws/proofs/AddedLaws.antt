-- Laws of a block whose two runs have got their ones: it is the block with the elements laid.
use mathlib.Core.Path.{◌≡◌, refl, sym, ap, ◌∙◌}
use mathlib.Core.List.{List}
use Prim.Native.Nat.{ℕ, zero, suc, ◌+◌, ◌*◌, ◌≤◌, ◌<◌}
use native.Mathlib.Decide.{dec_lt}
use native.Mathlib.Omega.{arith}
use lib.ListN.{length, drop}
use Rattle.rules.specs.Runs.{words_for}
use Rattle.rules.specs.List.{width, zeros, lower, upper, lower_at, upper_at}
use Rattle.rules.specs.InPlace.{from, with_ones, added}
use Rattle.shape.specs.declared.Shape.{Shape}
use Rattle.filllaws.specs.Filling.{Fitting}
use Rattle.filllaws.proofs.SideLaws.{sides, width_of, zeros_of, lower_is, upper_is}
use Rattle.shape.proofs.ShapeLaws.{shape_none}
use Rattle.addlaws.proofs.SetLaws.{ones_none, from_same}

-- where the runs lie
pub runs_in : (g : Shape) (s : List ℕ) → Fitting g s → (g.lower ≤ g.upper) × (g.upper ≤ length s)
runs_in g s f = let t = sides g s f in (omega (arith, t.upper), omega (arith, t.end, f.room))

added_none : (U n i : ℕ) (xs s : List ℕ) → n ≡ 0 → added U n i xs s ≡ s
unfolding added
added_none U zero i xs s e = refl
added_none U (suc n) i xs s e = absurd (omega arith)

added_some : (U n i : ℕ) (xs s : List ℕ) → 0 < n → (w : ℕ) → w ≡ width U n
    → added U n i xs s
    ≡ from (lower_at U w) (with_ones (words_for (n * w)) (lower w i xs))
    (from (upper_at U n w) (with_ones (words_for (n + zeros U w)) (upper w i xs)) s)
unfolding added
added_some U zero i xs s h w e = absurd (omega arith)
added_some U (suc n) i xs s h w e = rw e

module _ (g : Shape) (i : ℕ) (xs s : List ℕ) (f : Fitting g s) where
  abbrev lows : List ℕ → List ℕ
  lows = with_ones (words_for (g.n * g.w)) (lower g.w i xs)

  abbrev highs : List ℕ → List ℕ
  highs = with_ones (words_for g.bits) (upper g.w i xs)

  idle : (p m v : ℕ) (r : List ℕ) → m ≡ 0 → from p (with_ones m v) r ≡ r
  idle p m v r z =
      ap (λ (k : ℕ). from p (with_ones k v) r) z ∙ from_same p (with_ones 0 v) r (ones_none v (drop p r))

  none : g.n ≡ 0 → from g.lower lows (from g.upper highs s) ≡ s
  unfolding words_for
  none z =
      let b : g.bits ≡ 0 = ap (λ h. h.bits) (f.shape ∙ shape_none g.u g.n z) in
      let l : words_for (g.n * g.w) ≡ 0 = rw z (omega arith) in
      let h : words_for g.bits ≡ 0 = omega (arith, b) in
      idle g.lower (words_for (g.n * g.w)) (lower g.w i xs) (from g.upper highs s) l
      ∙ idle g.upper (words_for g.bits) (upper g.w i xs) s h

  pub added_by : from g.lower lows (from g.upper highs s) ≡ added g.u g.n i xs s
  added_by =
      elim (dec_lt 0 g.n) [
        | no n ↦ none (omega arith) ∙ sym (added_none g.u g.n i xs s (omega arith))
        | yes y ↦
            let b : g.bits ≡ g.n + zeros g.u g.w =
            omega (arith, (sides g s f).bits, zeros_of g s f y) in
            sym (added_some g.u g.n i xs s y g.w (width_of g s f y)
            ∙ rw (← lower_is g s f y, ← upper_is g s f y, ← b) refl)
      ]

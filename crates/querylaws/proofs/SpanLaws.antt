-- Laws of a span, and of readers and lists in one.
use mathlib.Core.Path.{◌≡◌, refl, ap, ap₂, ◌∙◌}
use mathlib.Core.List.{List, [], ◌∷◌, ◌++◌}
use Prim.Native.Nat.{ℕ, zero, suc, ◌+◌, ◌-◌, ◌≤◌, ◌<◌}
use native.Mathlib.Nat.{add-zero, zero-add}
use native.Mathlib.Omega.{arith}
use lib.ListN.{length}
use Rattle.rules.specs.Common.{Reader}
use Rattle.commonlaws.specs.Readers.{pages_of, Ready, AllReady}
use Rattle.querylaws.specs.Lists.{span}

module _ {A : Type 0} (f : ℕ → A) where
  pub length_span : (i n : ℕ) → length (span f i n) ≡ n
  unfolding span
  length_span i zero = refl
  length_span i (suc n) = ap suc (length_span (i + 1) n)

  pub span_none : (i : ℕ) → span f i 0 ≡ []
  unfolding span
  span_none i = refl

  -- the first of them
  pub span_cons : (i k : ℕ) → i < k → span f i (k - i) ≡ f i ∷ span f (i + 1) (k - (i + 1))
  span_cons i k h =
      let e : k - i ≡ suc (k - (i + 1)) = omega arith in
      rw e (unfold span in refl)

  -- the first n of them, and the others
  pub span_split : (n i m : ℕ) → span f i (n + m) ≡ span f i n ++ span f (i + n) m
  unfolding span
  span_split zero i m = rw (zero-add m, add-zero i)
  span_split (suc n) i m =
      let e : i + 1 + n ≡ i + suc n = omega arith in
      let s : suc n + m ≡ suc (n + m) = omega arith in
      rw s (ap (λ (l : List A). f i ∷ l) (span_split n (i + 1) m ∙ rw e))

  pub span_snoc : (n i : ℕ) → span f i (suc n) ≡ span f i n ++ f (i + n) ∷ []
  span_snoc n i =
      let e : suc n ≡ n + 1 = omega arith in
      rw e (span_split n i 1 ∙ (unfold span in refl))

  pub span_same : (g : ℕ → A) (n i : ℕ) → ((j : ℕ) → i ≤ j → j < i + n → f j ≡ g j) → span f i n ≡ span g i n
  unfolding span
  span_same g zero i h = refl
  span_same g (suc n) i h =
      ap₂ ◌∷◌ (h i (omega arith) (omega arith)) (span_same g n (i + 1) (λ j l m. h j (omega arith) (omega arith)))

module _ (f : ℕ → Reader) where
  pub span_ready : (U b n i : ℕ) → ((j : ℕ) → i ≤ j → j < i + n → Ready U b (f j)) → AllReady U b (span f i n)
  unfolding span
  span_ready U b zero i h = tt
  span_ready U b (suc n) i h = (
    h i (omega arith) (omega arith),
    span_ready U b n (i + 1) (λ j l m. h j (omega arith) (omega arith)),
  )

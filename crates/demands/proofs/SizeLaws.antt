-- Runs of answers that are as long, one by one: as many of them fit.
use mathlib.Core.Path.{◌≡◌, refl, ap}
use mathlib.Core.List.{List, [], ◌∷◌}
use Prim.Native.Nat.{ℕ, suc, ◌-◌}
use native.Mathlib.Decide.{dec_lt}
use native.Mathlib.Omega.{arith}
use lib.ListN.{length, length-append}
use Rattle.rules.specs.Ask.{fitting, joined}
use Rattle.demands.proofs.AskLaws.{fitting_yes, fitting_no}

abbrev pub Sizes : List (List ℕ) → List (List ℕ) → Type 0
Sizes [] [] = Unit {0}
Sizes [] (y ∷ ys) = ⊥
Sizes (x ∷ xs) [] = ⊥
Sizes (x ∷ xs) (y ∷ ys) = (length x ≡ length y) × Sizes xs ys

pub sizes_length : (xs ys : List (List ℕ)) → Sizes xs ys → length xs ≡ length ys
sizes_length [] [] s = refl
sizes_length [] (y ∷ ys) s = absurd s
sizes_length (x ∷ xs) [] s = absurd s
sizes_length (x ∷ xs) (y ∷ ys) s = ap suc (sizes_length xs ys s.1)

pub sizes_joined : (xs ys : List (List ℕ)) → Sizes xs ys → length (joined xs) ≡ length (joined ys)
unfolding joined
sizes_joined [] [] s = refl
sizes_joined [] (y ∷ ys) s = absurd s
sizes_joined (x ∷ xs) [] s = absurd s
sizes_joined (x ∷ xs) (y ∷ ys) s =
    omega (arith, length-append x (joined xs), length-append y (joined ys), s.0, sizes_joined xs ys s.1)

pub sizes_fitting : (xs ys : List (List ℕ)) → Sizes xs ys → (n : ℕ) → Sizes (fitting n xs) (fitting n ys)
unfolding fitting
sizes_fitting [] [] s n = tt
sizes_fitting [] (y ∷ ys) s n = absurd s
sizes_fitting (x ∷ xs) [] s n = absurd s
sizes_fitting (x ∷ xs) (y ∷ ys) s n = elim (dec_lt n (length x)) [
  | yes h ↦ rw (fitting_no x xs n h, fitting_no y ys n (omega (arith, h, s.0))) tt
  | no h ↦
      let l : n - length y ≡ n - length x = omega (arith, s.0) in
      rw (fitting_yes x xs n (omega arith), fitting_yes y ys n (omega (arith, s.0)), l)
      (s.0, sizes_fitting xs ys s.1 (n - length x))
]

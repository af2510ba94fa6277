-- The table's rule: one computed test of all its numbers, and the rule at each of them.
use mathlib.Core.Path.{◌≡◌, ap₂, ◌∙◌, subst}
use mathlib.Core.Bool.{Bool, true, ◌&&◌}
use mathlib.Core.List.{List, [], ◌∷◌}
use Prim.Native.Nat.{ℕ, zero, suc, ◌+◌, ◌*◌, ◌/◌, ◌%◌, ◌<◌}
use native.Mathlib.Omega.{arith}
use lib.Dec.{T, eqb, eqb→eq}
use lib.ListN.{length, get_or}
use Rattle.fields.specs.Words.{place_of_one}
use Rattle.selectlaws.proofs.ByteLaws.{both}
use Rattle.bytetable.specs.Places.{PlacesOfOnes}

-- number k of the table, by the rule
abbrev place : ℕ → ℕ
place k = place_of_one 8 (k / 8) (k % 8)

-- each number is the rule's, counted from k
abbrev tested : ℕ → List ℕ → Bool
tested k [] = true
tested k (x ∷ xs) = eqb x (place k) && tested (suc k) xs

tested_at : (xs : List ℕ) (k i : ℕ) → T (tested k xs) → i < length xs → get_or xs i 0 ≡ place (k + i)
tested_at [] k i t h = absurd (omega arith)
tested_at (x ∷ xs) k zero t h =
    let e : k ≡ k + 0 = omega arith in
    subst (λ (n : ℕ). x ≡ place n) e (eqb→eq x (place k) (both (eqb x (place k)) (tested (suc k) xs) t).0)
tested_at (x ∷ xs) k (suc i) t h =
    let e : suc k + i ≡ k + suc i = omega arith in
    subst (λ (n : ℕ). get_or xs i 0 ≡ place n) e
    (tested_at xs (suc k) i (both (eqb x (place k)) (tested (suc k) xs) t).1 (omega arith))

pub tested_places : (xs : List ℕ) → length xs ≡ 2048 → T (tested 0 xs) → PlacesOfOnes xs
tested_places xs l t b j hb hj =
    let q : (0 + (b * 8 + j)) / 8 ≡ b = omega arith in
    let r : (0 + (b * 8 + j)) % 8 ≡ j = omega arith in
    tested_at xs 0 (b * 8 + j) t (omega arith) ∙ ap₂ (place_of_one 8) q r

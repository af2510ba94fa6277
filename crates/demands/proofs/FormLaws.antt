-- The form of a word's pages, in request f's words: a bitmap in an index of version 2 on, exactly where they are dense.
use mathlib.Core.Bool.{Bool, true, false, not}
use mathlib.Core.Logic.{◌↔◌, ◌⊎◌, inl, inr}
use mathlib.Core.Path.{◌≡◌, refl, ap, ◌∙◌}
use mathlib.Core.List.{List}
use Prim.Native.Nat.{ℕ, ◌+◌, ◌*◌, ◌≤◌, ◌<◌}
use native.Mathlib.Omega.{arith}
use borrow.Author.Tests.{leb-true, leb-false, eqb-true, eqb-false}
use lib.Dec.{ltb, leb, eqb}
use lib.ListN.{get_or}
use Rattle.rules.specs.Limits.{version, map_version, map_edition, up_to}
use Rattle.rules.specs.List.{width, zeros, two_runs, bitmap, dense, form_of, form_version}
use Rattle.rules.specs.ReadList.{list_u, list_n}
use Rattle.laws.proofs.HeadLaws.{up_to_parts}
use Rattle.demands.specs.Faults.{Dense, WrongForm}
use Rattle.demands.proofs.FirstLaws.{Tests, tests_both, tests_lt}
use Rattle.demands.proofs.FaultLaws.{tests_not}

-- the definition's test is the sentence
pub tests_dense : (U n : ℕ) → Tests (dense U n) (Dense U n)
unfolding dense
tests_dense U n =
    let b : ℕ = n + zeros U (width U n) + n * width U n in
    tests_both (ltb 0 n) (ltb U b) _ _ (tests_lt 0 n) (tests_lt U b)

-- both forms, and when
form_told : (v U n : ℕ)
    → ((form_of v U n ≡ bitmap) × (map_edition ≤ v) × Dense U n)
    ⊎ ((form_of v U n ≡ two_runs) × ((v < map_edition) ⊎ (Dense U n → ⊥)))
form_told v U n = go (leb map_edition v) refl (dense U n) refl
  where
    go : (a : Bool) → leb map_edition v ≡ a → (b : Bool) → dense U n ≡ b
        → ((form_of v U n ≡ bitmap) × (map_edition ≤ v) × Dense U n)
        ⊎ ((form_of v U n ≡ two_runs) × ((v < map_edition) ⊎ (Dense U n → ⊥)))
    go false e b f = inr (unfold form_of in rw e, inl (leb-false map_edition v e))
    go true e false f = inr (unfold form_of in rw (e, f), inr ((tests_dense U n).1 f))
    go true e true f = inl (unfold form_of in rw (e, f), leb-true map_edition v e, (tests_dense U n).0 f)

-- the version of a list in the form that its place asks for
pub version_when : (v U n x : ℕ) → x ≡ form_version (form_of v U n)
    → ((x ≡ map_version) ↔ ((map_edition ≤ v) × Dense U n))
    × ((x ≡ version) ↔ ((v < map_edition) ⊎ (Dense U n → ⊥)))
version_when v U n x e = elim (form_told v U n) [
  | inl a ↦
      let m : x ≡ 2 = e ∙ ap form_version a.0 in (
        (λ f. (a.1, a.2), λ d. m),
        (
          λ f. absurd (omega (arith, f, m)),
          λ d. elim d [ inl h ↦ absurd (omega (arith, h, a.1)) | inr h ↦ absurd (h a.2) ],
        ),
      )
  | inr a ↦
      let m : x ≡ 1 = e ∙ ap form_version a.0 in (
        (
          λ f. absurd (omega (arith, f, m)),
          λ d. elim a.1 [ inl h ↦ absurd (omega (arith, h, d.0)) | inr h ↦ absurd (h d.1) ],
        ),
        (λ f. a.1, λ d. m),
      )
]

-- a block whose version is known is in the wrong form exactly where its version is not that of the form that its place
-- asks for
pub tests_form : (v : ℕ) (s : List ℕ) → up_to map_version (get_or s 4 0) ≡ true
    → Tests (not (eqb (get_or s 4 0) (form_version (form_of v (list_u s) (list_n s))))) (WrongForm v s)
tests_form v s known = elim (form_told v (list_u s) (list_n s)) [
  | inl a ↦ rw a.0 (tests_not (eqb (get_or s 4 0) 2) (WrongForm v s)
      (λ e. inr (omega (arith, k.0, k.1, eqb-false (get_or s 4 0) 2 e), a.1, a.2))
      (λ e w. elim w [
        | inl x ↦ elim x.1 [ inl h ↦ omega (arith, h, a.1) | inr h ↦ h a.2 ]
        | inr x ↦ omega (arith, x.0, eqb-true (get_or s 4 0) 2 e)
      ]))
  | inr a ↦ rw a.0 (tests_not (eqb (get_or s 4 0) 1) (WrongForm v s)
      (λ e. inl (omega (arith, k.0, k.1, eqb-false (get_or s 4 0) 1 e), a.1))
      (λ e w. elim w [
        | inl x ↦ omega (arith, x.0, eqb-true (get_or s 4 0) 1 e)
        | inr x ↦ elim a.1 [ inl h ↦ omega (arith, h, x.1) | inr h ↦ h x.2 ]
      ]))
]
  where
    k : (1 ≤ get_or s 4 0) × (get_or s 4 0 ≤ 2)
    k = up_to_parts map_version (get_or s 4 0) known

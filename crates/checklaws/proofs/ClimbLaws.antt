-- Laws of the elements passed: to the next one, over zeros, to the end.
use mathlib.Core.Bool.{Bool, true, false, ◌&&◌, false≢true}
use mathlib.Core.Path.{◌≡◌, refl, sym, ap, ◌∙◌}
use mathlib.Core.List.{List, [], ◌∷◌, ◌++◌, append-nil}
use Prim.Native.Nat.{ℕ, suc, ◌+◌, ◌-◌, ◌*◌, ◌≤◌, ◌<◌}
use native.Mathlib.Nat.{zero-add}
use native.Mathlib.Decide.{dec_lt}
use native.Mathlib.Omega.{arith}
use lib.Dec.{leb}
use Rattle.rules.specs.Runs.{run_bit, words_for}
use Rattle.rules.specs.Counts.{ones_below}
use Rattle.rules.specs.ReadList.{elements}
use Rattle.laws.proofs.CountLaws.{below_none, below_suc, ones_below_le}
use Rattle.laws.proofs.RunLaws.{ones_flat}
use Rattle.shape.specs.declared.Shape.{Shape}
use Rattle.listlaws.specs.Sound.{climbs, least}
use Rattle.listlaws.proofs.RisingLaws.{and_parts, climbs_append, least_append, rising_climbs}
use Rattle.listlaws.proofs.ElementLaws.{element, elements_append, elements_spare, elements_next}
use Rattle.checklaws.specs.Check.{Holds, passed, Climbed}

climbs_one : (lo x : ℕ) → climbs lo (x ∷ []) ≡ leb lo x && true
unfolding climbs
climbs_one lo x = refl

least_one : (lo x : ℕ) → least lo (x ∷ []) ≡ x + 1
unfolding least
least_one lo x = refl

and_true : (b : Bool) → b && true ≡ b
and_true true = refl
and_true false = refl

module _ (s : List ℕ) (g : Shape) where
  abbrev up : ℕ
  up = g.upper

  -- the element of a one at place q with i ones below it
  abbrev pub element_at : ℕ → ℕ → ℕ
  element_at q i = element s g.upper g.lower g.w (q - i) i

  passed_split : (p i b : ℕ) → ones_below s up p ≡ i
      → passed s g (p + b) ≡ passed s g p ++ elements s up g.lower g.w b (p - i) i
  passed_split p i b e =
      let z : p - i + i ≡ p = omega (arith, ones_below_le s up p) in
      let far : 0 + 0 + (p - i + i) ≡ p = omega (arith, z) in
      let c : ones_below s up (0 + 0 + (p - i + i)) ≡ ones_below s up (0 + 0) + i =
      rw far (omega (arith, e, below_none s up)) in
      rw (z, zero-add (p - i), zero-add i) at (elements_append s up g.lower g.w (p - i) i b 0 0 c)

  -- zeros hold no element
  pub passed_zeros : (p q : ℕ) → p ≤ q → ((j : ℕ) → p ≤ j → j < q → run_bit s g.upper j ≡ 0)
      → passed s g q ≡ passed s g p
  passed_zeros p q l zeros =
      let i : ℕ = ones_below s up p in
      let e : p + (q - p) ≡ q = omega arith in
      let z : p - i + i ≡ p = omega (arith, ones_below_le s up p) in
      let none = elements_spare s up g.lower g.w (q - p) (p - i) i
      (λ j a b. zeros j (omega (arith, z)) (omega (arith, z))) in
      rw (e, none) at (passed_split p i (q - p) refl) ∙ append-nil (passed s g p)

  -- of sound bytes any first elements climb
  climbs_to : Holds s g → (p : ℕ) → p ≤ g.bits → climbs 0 (passed s g p) ≡ true
  climbs_to a p h =
      let xs : List ℕ = passed s g p in
      let ys : List ℕ = elements s up g.lower g.w (g.bits - p) (p - ones_below s up p) (ones_below s up p) in
      let e : p + (g.bits - p) ≡ g.bits = omega arith in
      let c = and_parts (climbs 0 (passed s g g.bits)) (leb (least 0 (passed s g g.bits)) g.u)
      (rw (rising_climbs 0 g.u (passed s g g.bits) (omega arith)) at a.rises) in
      (and_parts (climbs 0 xs) (climbs (least 0 xs) ys)
      (rw (← e, passed_split p (ones_below s up p) (g.bits - p) refl, climbs_append) at c.0)).0

  -- and so do all elements that the words hold: spare bits hold none
  pub climbed_refuse : (p i m : ℕ) → Climbed s g p i m false → p ≤ 64 * words_for g.bits → Holds s g → ⊥
  climbed_refuse p i m f u a =
      elim (dec_lt g.bits p) [
        | yes h ↦
            let same = passed_zeros g.bits p (omega arith) (λ j b e. a.upper_spare j b (omega arith)) in
            false≢true (sym f.climb ∙ ap (climbs 0) same ∙ climbs_to a g.bits (omega arith))
        | no h ↦ false≢true (sym f.climb ∙ climbs_to a p (omega arith))
      ]

  module _ (p i m : ℕ) (b : Bool) (c : Climbed s g p i m b) (q : ℕ) (l : p ≤ q)
      (zeros : (j : ℕ) → p ≤ j → j < q → run_bit s g.upper j ≡ 0) where
    place : p - i + i ≡ p
    place = omega (arith, ones_below_le s up p, c.counted)

    flat : ones_below s up q ≡ i
    flat =
        let e : p + (q - p) ≡ q = omega arith in
        rw e at (ones_flat s up p (q - p) (λ j a b. zeros j a (omega arith))) ∙ c.counted

    -- over zeros
    pub climbed_zeros : Climbed s g q i m b
    climbed_zeros =
        let xs = passed_zeros p q l zeros in
        record { counted = flat; climb = rw xs c.climb; least_is = rw xs c.least_is }

    -- and to the one behind them
    module _ (one : run_bit s g.upper q ≡ 1) where
      passed_next : passed s g (q + 1) ≡ passed s g p ++ (element_at q i ∷ [])
      unfolding elements
      passed_next =
          let e : p + (q - p + suc 0) ≡ q + 1 = omega arith in
          let h : p - i + (q - p) ≡ q - i = omega (arith, place) in
          let k : p - i + (q - p) + i ≡ q = omega (arith, place) in
          let n = elements_next s up g.lower g.w (q - p) 0 (p - i) i
          (λ j a b. zeros j (omega (arith, place)) (omega (arith, place))) (rw k one) in
          rw (e, n, h) at (passed_split p i (q - p + suc 0) c.counted)

      climbs_next : climbs 0 (passed s g (q + 1)) ≡ b && leb m (element_at q i)
      climbs_next =
          rw (passed_next, climbs_append, c.climb, c.least_is, climbs_one, and_true (leb m (element_at q i)))

      pub climbed_one : Climbed s g (q + 1) (i + 1) (element_at q i + 1) (b && leb m (element_at q i))
      climbed_one =
          let e : q + 1 ≡ suc q = omega arith in
          record {
            counted = rw e (omega (arith, below_suc s up q, one, flat));
            climb = climbs_next;
            least_is = rw (passed_next, least_append) (least_one (least 0 (passed s g p)) (element_at q i));
          }

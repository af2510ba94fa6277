-- Laws of the pages that bits of a bitmap hold: over a zero, a one, two stretches, by rank; of any bytes.
-- What the bitmap's number is for a list at hand is in NumberLaws.
use mathlib.Core.Bool.{true}
use mathlib.Core.Logic.{inl, inr}
use mathlib.Core.Path.{◌≡◌, refl, sym, ap, ◌∙◌}
use mathlib.Core.List.{List, [], ◌∷◌, ◌++◌}
use Prim.Native.Nat.{ℕ, zero, suc, ◌+◌, ◌-◌, ◌≤◌, ◌<◌}
use native.Mathlib.Nat.{zero-add, add-zero}
use native.Mathlib.Decide.{ℕ_discrete}
use native.Mathlib.Omega.{arith}
use borrow.Author.Tests.{le-leb, lt-ltb}
use lib.ListN.{length, get_or}
use lib.Seq.{get_or_at}
use Rattle.rules.specs.Runs.{bit, run_bit, field}
use Rattle.rules.specs.Counts.{ones_below}
use Rattle.rules.specs.List.{rising, map_of}
use Rattle.rules.specs.ReadList.{map_elements}
use Rattle.laws.proofs.CountLaws.{below_none, below_suc}
use Rattle.laws.proofs.RunLaws.{run_cases, field_suc, field_none, field_bit}
use Rattle.listlaws.proofs.RisingLaws.{rising_parts}
use Rattle.maplaws.proofs.NumberLaws.{map_none, map_below, map_here, map_above}

rising_later : (p U x : ℕ) (xs : List ℕ) → rising p U (x ∷ xs) ≡ true → p < x → rising (p + 1) U (x ∷ xs) ≡ true
unfolding rising
rising_later p U x xs r h =
    let t = rising_parts p U x xs r in
    rw (le-leb (p + 1) x (omega arith), lt-ltb x U t.1) t.2

module _ (s : List ℕ) (at : ℕ) where
  pub pages_none : (p : ℕ) → map_elements s at 0 p ≡ []
  unfolding map_elements
  pages_none p = refl

  pub pages_zero : (b p : ℕ) → run_bit s at p ≡ 0 → map_elements s at (suc b) p ≡ map_elements s at b (p + 1)
  unfolding map_elements
  pages_zero b p e = rw (e, map_elements)

  pub pages_one : (b p : ℕ) → run_bit s at p ≡ 1 → map_elements s at (suc b) p ≡ p ∷ map_elements s at b (p + 1)
  unfolding map_elements
  pages_one b p e = rw (e, map_elements)

  -- how many they are
  pub length_pages : (b p : ℕ) → ones_below s at p + length (map_elements s at b p) ≡ ones_below s at (p + b)
  length_pages zero p = rw (pages_none p, add-zero p) (add-zero (ones_below s at p))
  length_pages (suc b) p =
      let e : p + 1 + b ≡ p + suc b = omega arith in
      let g : p + 1 ≡ suc p = omega arith in
      let ih = rw (e, g) at (length_pages b (p + 1)) in
      elim (run_cases s at p) [
        | inl z ↦ rw (pages_zero b p z, g) (omega (arith, ih, below_suc s at p, z))
        | inr o ↦ rw (pages_one b p o, g) (omega (arith, ih, below_suc s at p, o))
      ]

  -- two stretches
  pub pages_append : (a b p : ℕ) → map_elements s at (a + b) p ≡ map_elements s at a p ++ map_elements s at b (p + a)
  pages_append zero b p = rw (zero-add b, pages_none p, add-zero p)
  pages_append (suc a) b p =
      let e : p + 1 + a ≡ p + suc a = omega arith in
      let g : suc a + b ≡ suc (a + b) = omega arith in
      let ih = rw e at (pages_append a b (p + 1)) in
      elim (run_cases s at p) [
        | inl z ↦ rw (g, pages_zero (a + b) p z, pages_zero a p z) ih
        | inr o ↦ rw (g, pages_one (a + b) p o, pages_one a p o) (ap (λ (l : List ℕ). p ∷ l) ih)
      ]

  -- they rise by themselves
  pub pages_rising : (b p lo U : ℕ) → lo ≤ p → p + b ≤ U → rising lo U (map_elements s at b p) ≡ true
  unfolding rising
  pages_rising zero p lo U l h = rw (pages_none p)
  pages_rising (suc b) p lo U l h =
      elim (run_cases s at p) [
        | inl z ↦ rw (pages_zero b p z) (pages_rising b (p + 1) lo U (omega arith) (omega arith))
        | inr o ↦ rw (pages_one b p o, le-leb lo p l, lt-ltb p U (omega arith))
            (pages_rising b (p + 1) (p + 1) U (omega arith) (omega arith))
      ]

  -- the bitmap of what is read is the run that was read
  pages_field : (b p : ℕ) → field s at 0 p + map_of (map_elements s at b p) ≡ field s at 0 (p + b)
  unfolding map_of
  pages_field zero p = rw (pages_none p, add-zero p) (add-zero (field s at 0 p))
  pages_field (suc b) p =
      let e : p + 1 + b ≡ p + suc b = omega arith in
      let g : p + 1 ≡ suc p = omega arith in
      let ih = rw (e, g, field_suc s at 0 p, zero-add p) at (pages_field b (p + 1)) in
      elim (run_cases s at p) [
        | inl z ↦ rw (pages_zero b p z, g) (omega (arith, rw z at ih))
        | inr o ↦ rw (pages_one b p o, g) (omega (arith, rw o at ih))
      ]

  pub pages_number : (b : ℕ) → map_of (map_elements s at b 0) ≡ field s at 0 b
  pages_number b = omega (arith, rw (zero-add b) at (pages_field b 0), field_none s at 0)

  pub pages_agree : (b p : ℕ) → p < b → run_bit s at p ≡ bit (map_of (map_elements s at b 0)) p
  pages_agree b p h = rw (pages_number b, field_bit s at 0 b p h, zero-add p)

  -- the b bits from place p on hold the list whose bitmap they are
  pub pages_are : (b p U : ℕ) (xs : List ℕ) → rising p U xs ≡ true → U ≡ p + b
      → ((i : ℕ) → p ≤ i → i < p + b → run_bit s at i ≡ bit (map_of xs) i) → map_elements s at b p ≡ xs
  unfolding rising
  pages_are zero p U [] r e u = pages_none p
  pages_are zero p U (x ∷ xs) r e u = let t = rising_parts p U x xs r in absurd (omega (arith, t.0, t.1))
  pages_are (suc b) p U [] r e u =
      pages_zero b p (u p (omega arith) (omega arith) ∙ map_none p)
      ∙ pages_are b (p + 1) U [] refl (omega arith) (λ i l h. u i (omega arith) (omega arith))
  pages_are (suc b) p U (x ∷ xs) r e u =
      let t = rising_parts p U x xs r in
      elim (ℕ_discrete p x) [
        | yes q ↦ pages_one b p (u p (omega arith) (omega arith) ∙ rw q (map_here p U x xs r))
            ∙ rw q (ap (λ (l : List ℕ). x ∷ l) (pages_are b (x + 1) U xs t.2 (omega arith)
            (λ i l h. u i (omega arith) (omega arith) ∙ map_above p U x xs r i (omega arith))))
        | no q ↦ pages_zero b p (u p (omega arith) (omega arith) ∙ map_below p U x xs r p (omega (arith, q, t.0)))
            ∙ pages_are b (p + 1) U (x ∷ xs) (rising_later p U x xs r (omega (arith, q, t.0))) (omega arith)
            (λ i l h. u i (omega arith) (omega arith))
      ]

  -- ---- by rank

  -- the one with so many ones below it is that of the page with this number
  pub page_of_one : (b p : ℕ) → p < b → run_bit s at p ≡ 1 → get_or (map_elements s at b 0) (ones_below s at p) 0 ≡ p
  page_of_one b p h o =
      let e : p + suc (b - suc p) ≡ b = omega arith in
      let l : length (map_elements s at p 0) ≡ ones_below s at p =
      omega (arith, rw (zero-add p) at (length_pages p 0), below_none s at) in
      let t : get_or (map_elements s at (p + suc (b - suc p)) 0) (ones_below s at p) 0 ≡ p =
      rw (pages_append p (suc (b - suc p)) 0, zero-add p, pages_one (b - suc p) p o)
      (get_or_at (map_elements s at p 0) p (map_elements s at (b - suc p) (p + 1)) 0 (ones_below s at p) l) in
      rw e at t

  -- the one of page number j among those from place p on, below which are j ones more
  abbrev Ranked : ℕ → ℕ → List ℕ → Type 0
  Ranked p j xs = (run_bit s at (get_or xs j 0) ≡ 1) × (ones_below s at (get_or xs j 0) ≡ ones_below s at p + j)

  ranked_first : (p : ℕ) (xs : List ℕ) → run_bit s at p ≡ 1 → ((i : ℕ) → i < length xs → Ranked (suc p) i xs)
      → (j : ℕ) → j < suc (length xs) → Ranked p j (p ∷ xs)
  ranked_first p xs o ih zero h = (o, sym (add-zero (ones_below s at p)))
  ranked_first p xs o ih (suc j) h =
      let t = ih j (omega arith) in
      (t.0, omega (arith, t.1, below_suc s at p, o))

  pages_ranked : (b p j : ℕ) → j < length (map_elements s at b p) → Ranked p j (map_elements s at b p)
  pages_ranked zero p j h = absurd (omega (arith, ap length (pages_none p)))
  pages_ranked (suc b) p j h =
      let g : p + 1 ≡ suc p = omega arith in
      elim (run_cases s at p) [
        | inl z ↦
            let ih = rw g at (pages_ranked b (p + 1) j (rw (pages_zero b p z) at h)) in
            rw (pages_zero b p z, g) (ih.0, omega (arith, ih.1, below_suc s at p, z))
        | inr o ↦
            let ih : (i : ℕ) → i < length (map_elements s at b (suc p)) → Ranked (suc p) i (map_elements s at b (suc p)) =
            rw g at (pages_ranked b (p + 1)) in
            rw (pages_one b p o, g) (ranked_first p (map_elements s at b (suc p)) o ih j (rw (pages_one b p o, g) at h))
      ]

  -- every page has its one, below which are as many as its number
  pub one_of_page : (b j : ℕ) → j < length (map_elements s at b 0)
      → (run_bit s at (get_or (map_elements s at b 0) j 0) ≡ 1) × (ones_below s at (get_or (map_elements s at b 0) j 0) ≡ j)
  one_of_page b j h =
      let t = pages_ranked b 0 j h in
      (t.0, omega (arith, t.1, below_none s at))

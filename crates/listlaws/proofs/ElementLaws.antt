-- Laws of the elements that bits of an upper run hold: over a zero, a one, zeros, two stretches, by rank.
-- What the runs' numbers are for a list at hand is in UpperLaws and LowerLaws.
use mathlib.Core.Path.{◌≡◌, refl, ap, ◌∙◌}
use mathlib.Core.Logic.{inl, inr}
use mathlib.Core.List.{List, [], ◌∷◌, ◌++◌}
use Prim.Native.Nat.{ℕ, zero, suc, ◌+◌, ◌-◌, ◌*◌, ◌/◌, ◌%◌, ◌^◌, ◌≤◌, ◌<◌}
use native.Mathlib.Nat.{add-zero, zero-add, suc-add, add-mul, one-mul, zero-mul}
use native.Mathlib.Omega.{arith}
use lib.ListN.{length, get_or}
use lib.Seq.{get_or_at}
use lib.Pow.{high, low}
use Rattle.rules.specs.Runs.{bit, run_bit, field}
use Rattle.rules.specs.Counts.{ones_below}
use Rattle.rules.specs.List.{upper, lower}
use Rattle.rules.specs.ReadList.{elements}
use Rattle.laws.proofs.CountLaws.{below_none, below_suc, ones_slow}
use Rattle.laws.proofs.RunLaws.{run_cases, field_lt, field_cat, field_suc, field_bit, field_none, ones_mono}

module _ (s : List ℕ) (up lo w : ℕ) where
  -- the element that a one gives with h zeros and i ones below it
  abbrev pub element : ℕ → ℕ → ℕ
  element h i = h * 2 ^ w + field s lo (i * w) w

  element_high : (h i : ℕ) → element h i / 2 ^ w ≡ h
  element_high h i = high h w (field_lt s lo (i * w) w)

  element_low : (h i : ℕ) → element h i % 2 ^ w ≡ field s lo (i * w) w
  element_low h i = low h w (field_lt s lo (i * w) w)

  pub elements_zero : (b h i : ℕ) → run_bit s up (h + i) ≡ 0
      → elements s up lo w (suc b) h i ≡ elements s up lo w b (h + 1) i
  unfolding elements
  elements_zero b h i e = rw (e, elements)

  pub elements_one : (b h i : ℕ) → run_bit s up (h + i) ≡ 1
      → elements s up lo w (suc b) h i ≡ element h i ∷ elements s up lo w b h (i + 1)
  unfolding elements
  elements_one b h i e = rw (e, elements)

  elements_none : (h i : ℕ) → elements s up lo w 0 h i ≡ []
  unfolding elements
  elements_none h i = refl

  -- how many they are
  pub length_elements : (b h i : ℕ)
      → ones_below s up (h + i) + length (elements s up lo w b h i) ≡ ones_below s up (h + i + b)
  unfolding ones_below elements
  length_elements zero h i = rw (add-zero (h + i)) (add-zero (ones_below s up (h + i)))
  length_elements (suc b) h i =
      elim (run_cases s up (h + i)) [
        | inl e ↦
            let p : h + 1 + i ≡ suc (h + i) = omega arith in
            let q : h + 1 + i + b ≡ h + i + suc b = omega arith in
            let ih = rw (q, p, e) at (length_elements b (h + 1) i) in
            rw (elements_zero b h i e) (omega (arith, ih))
        | inr e ↦
            let p : h + (i + 1) ≡ suc (h + i) = omega arith in
            let q : h + (i + 1) + b ≡ h + i + suc b = omega arith in
            let ih = rw (q, p, e) at (length_elements b h (i + 1)) in
            rw (elements_one b h i e) (omega (arith, ih))
      ]

  -- two stretches, of which the first has g zeros and d ones
  pub elements_append : (g d b h i : ℕ) → ones_below s up (h + i + (g + d)) ≡ ones_below s up (h + i) + d
      → elements s up lo w (g + d + b) h i ≡ elements s up lo w (g + d) h i ++ elements s up lo w b (h + g) (i + d)
  elements_append g d b h i e = go (g + d) h i g d refl e
    where
      go : (a h i g d : ℕ) → g + d ≡ a → ones_below s up (h + i + a) ≡ ones_below s up (h + i) + d
          → elements s up lo w (a + b) h i ≡ elements s up lo w a h i ++ elements s up lo w b (h + g) (i + d)
      go zero h i g d z e =
          let p : h + g ≡ h = omega arith in
          let q : i + d ≡ i = omega arith in
          rw (zero-add b, elements_none h i, p, q)
      go (suc a) h i g d z e =
          let more : suc a + b ≡ suc (a + b) = omega arith in
          let far : suc (h + i) + a ≡ h + i + suc a = omega arith in
          let s1 = rw far at (ones_slow s up (suc (h + i)) a) in
          let m1 = rw far at (ones_mono s up (suc (h + i)) a) in
          let next = below_suc s up (h + i) in
          rw more (elim (run_cases s up (h + i)) [
            | inl e0 ↦
                let p : h + 1 + i ≡ suc (h + i) = omega arith in
                let q : h + 1 + (g - 1) ≡ h + g = omega (arith, s1, next, e0, e) in
                rw (elements_zero (a + b) h i e0, elements_zero a h i e0)
                (rw q at (go a (h + 1) i (g - 1) d (omega (arith, q)) (rw (p, far) (omega (arith, next, e0, e)))))
            | inr e1 ↦
                let p : h + (i + 1) ≡ suc (h + i) = omega arith in
                let q : i + 1 + (d - 1) ≡ i + d = omega (arith, m1, next, e1, e) in
                rw (elements_one (a + b) h i e1, elements_one a h i e1) (ap (λ (l : List ℕ). element h i ∷ l)
                (rw q at (go a h (i + 1) g (d - 1) (omega (arith, q)) (rw (p, far) (omega (arith, next, e1, e, q))))))
          ])

  -- a stretch of zeros
  pub elements_zeros : (g b h i : ℕ) → ((p : ℕ) → h + i ≤ p → p < h + i + g → run_bit s up p ≡ 0)
      → elements s up lo w (g + b) h i ≡ elements s up lo w b (h + g) i
  elements_zeros zero b h i z = rw (zero-add b, add-zero h)
  elements_zeros (suc g) b h i z =
      let q : h + 1 + g ≡ h + suc g = omega arith in
      rw suc-add (elements_zero (g + b) h i (z (h + i) (omega arith) (omega arith))
      ∙ rw q at (elements_zeros g b (h + 1) i (λ p l m. z p (omega arith) (omega arith))))

  -- zeros to the end of the stretch
  pub elements_spare : (b h i : ℕ) → ((p : ℕ) → h + i ≤ p → p < h + i + b → run_bit s up p ≡ 0)
      → elements s up lo w b h i ≡ []
  elements_spare b h i z = rw (add-zero b) at (elements_zeros b 0 h i z) ∙ elements_none (h + b) i

  -- the next one, after g zeros
  pub elements_next : (g b h i : ℕ) → ((p : ℕ) → h + i ≤ p → p < h + i + g → run_bit s up p ≡ 0)
      → run_bit s up (h + g + i) ≡ 1
      → elements s up lo w (g + suc b) h i ≡ element (h + g) i ∷ elements s up lo w b (h + g) (i + 1)
  elements_next g b h i z e = elements_zeros g (suc b) h i z ∙ elements_one b (h + g) i e

  -- the element whose one has h + g zeros and i + d ones below it
  pub element_at : (g d b h i : ℕ) → ones_below s up (h + i + (g + d)) ≡ ones_below s up (h + i) + d
      → run_bit s up (h + g + (i + d)) ≡ 1 → get_or (elements s up lo w (g + d + suc b) h i) d 0 ≡ element (h + g) (i + d)
  element_at g d b h i c e =
      let t : length (elements s up lo w (g + d) h i) ≡ d = omega (arith, length_elements (g + d) h i) in
      rw (elements_append g d (suc b) h i c, elements_one b (h + g) (i + d) e) (get_or_at (elements s up lo w (g + d) h i)
      (element (h + g) (i + d)) (elements s up lo w b (h + g) (i + d + 1)) 0 d t)

  -- ---- the numbers of the two runs

  pub upper_elements : (b h i : ℕ)
      → field s up 0 (h + i) + upper w i (elements s up lo w b h i) ≡ field s up 0 (h + i + b)
  unfolding upper elements
  upper_elements zero h i = rw (add-zero (h + i)) (add-zero (field s up 0 (h + i)))
  upper_elements (suc b) h i =
      let z : 0 + (h + i) ≡ h + i = omega arith in
      elim (run_cases s up (h + i)) [
        | inl e ↦
            let p : h + 1 + i ≡ suc (h + i) = omega arith in
            let q : h + 1 + i + b ≡ h + i + suc b = omega arith in
            let ih = rw (q, p, field_suc s up 0 (h + i), z, e) at (upper_elements b (h + 1) i) in
            rw (elements_zero b h i e) (omega (arith, ih))
        | inr e ↦
            let p : h + (i + 1) ≡ suc (h + i) = omega arith in
            let q : h + (i + 1) + b ≡ h + i + suc b = omega arith in
            let ih = rw (q, p, field_suc s up 0 (h + i), z, e) at (upper_elements b h (i + 1)) in
            rw (elements_one b h i e, element_high h i) (omega (arith, ih))
      ]

  pub lower_elements : (b h i : ℕ) → field s lo 0 (i * w) + lower w i (elements s up lo w b h i)
      ≡ field s lo 0 ((i + length (elements s up lo w b h i)) * w)
  unfolding lower elements
  lower_elements zero h i = rw (add-zero i) (add-zero (field s lo 0 (i * w)))
  lower_elements (suc b) h i =
      elim (run_cases s up (h + i)) [
        | inl e ↦ rw (elements_zero b h i e) (lower_elements b (h + 1) i)
        | inr e ↦
            let p : (i + 1) * w ≡ i * w + w = rw (add-mul, one-mul) in
            let z : 0 + i * w ≡ i * w = omega arith in
            let q : i + 1 + length (elements s up lo w b h (i + 1))
            ≡ i + suc (length (elements s up lo w b h (i + 1))) = omega arith in
            let ih = rw (q, p, field_cat s lo 0 (i * w) w, z) at (lower_elements b h (i + 1)) in
            rw (elements_one b h i e, element_low h i) (omega (arith, ih))
      ]

  -- ---- from the run's start

  from_start : (b : ℕ) → 0 + 0 + b ≡ b
  from_start b = omega arith

  pub elements_count : (b : ℕ) → length (elements s up lo w b 0 0) ≡ ones_below s up b
  elements_count b = omega (arith, rw (from_start b) at (length_elements b 0 0), below_none s up)

  -- of any bytes, the upper run of what is read is the run that was read
  pub upper_number : (b : ℕ) → upper w 0 (elements s up lo w b 0 0) ≡ field s up 0 b
  upper_number b = omega (arith, rw (from_start b) at (upper_elements b 0 0), field_none s up 0)

  pub upper_agrees : (b p : ℕ) → p < b → run_bit s up p ≡ bit (upper w 0 (elements s up lo w b 0 0)) p
  upper_agrees b p h = rw (upper_number b, field_bit s up 0 b p h, zero-add p)

  -- and of so many elements the lower run too
  pub lower_number : (b : ℕ)
      → lower w 0 (elements s up lo w b 0 0) ≡ field s lo 0 (length (elements s up lo w b 0 0) * w)
  lower_number b =
      let z : 0 + length (elements s up lo w b 0 0) ≡ length (elements s up lo w b 0 0) = omega arith in
      omega (arith, rw (z, zero-mul w) at (lower_elements b 0 0), field_none s lo 0)

-- Laws of the lower run's number: its fields are the low parts.
use mathlib.Core.Path.{◌≡◌, sym, ap, ◌∙◌}
use mathlib.Core.List.{List, [], ◌∷◌}
use Prim.Native.Nat.{ℕ, zero, suc, ◌+◌, ◌*◌, ◌/◌, ◌%◌, ◌^◌, ◌<◌}
use native.Mathlib.Nat.{zero-add, add_comm, mul_assoc, add-mul, one-mul}
use native.Mathlib.Nat.{zero-mul, mod-lt, mod-mod, mul-add-mod_self_right}
use native.Mathlib.Omega.{arith}
use lib.ListN.{length, get_or}
use lib.Pow.{pow-add, pow_pos, shl-shr, shr-shr, high, shl_lt}
use Rattle.rules.specs.List.{lower}

module _ (w : ℕ) where
  more : (i : ℕ) → (i + 1) * w ≡ w + i * w
  more i = add-mul i 1 w ∙ ap (λ (v : ℕ). i * w + v) (one-mul w) ∙ add_comm (i * w) w

  lower_shape : (i : ℕ) (xs : List ℕ) → (q : ℕ) × (lower w i xs ≡ q * 2 ^ (i * w))
  unfolding lower
  lower_shape i [] = (0, sym (zero-mul (2 ^ (i * w))))
  lower_shape i (x ∷ xs) =
      let ih = lower_shape (i + 1) xs in
      let ih' : lower w (i + 1) xs ≡ ih.0 * 2 ^ w * 2 ^ (i * w) = rw (more i, pow-add, ← mul_assoc) at ih.1 in
      (x % 2 ^ w + ih.0 * 2 ^ w, rw ih' (sym (add-mul (x % 2 ^ w) (ih.0 * 2 ^ w) (2 ^ (i * w)))))

  first_lt : (x i : ℕ) → x % 2 ^ w * 2 ^ (i * w) < 2 ^ ((i + 1) * w)
  first_lt x i = rw (more i) (shl_lt w (i * w) (mod-lt x (pow_pos w)))

  -- field number i + j is the low part of element number i + j
  lower_field : (i : ℕ) (xs : List ℕ) (j : ℕ) → j < length xs
      → lower w i xs / 2 ^ ((i + j) * w) % 2 ^ w ≡ get_or xs j 0 % 2 ^ w
  unfolding lower
  lower_field i [] j h = absurd (omega arith)
  lower_field i (x ∷ xs) zero h =
      let t = lower_shape (i + 1) xs in
      let r : lower w (i + 1) xs ≡ t.0 * 2 ^ w * 2 ^ (i * w) = rw (more i, pow-add, ← mul_assoc) at t.1 in
      let z : i + 0 ≡ i = omega arith in
      rw (z, r, ← add-mul, shl-shr, add_comm (x % 2 ^ w) (t.0 * 2 ^ w), mul-add-mod_self_right) (mod-mod x (2 ^ w))
  lower_field i (x ∷ xs) (suc j) h =
      let t = lower_shape (i + 1) xs in
      let a : i + suc j ≡ i + 1 + j = omega arith in
      let g : (i + 1 + j) * w ≡ (i + 1) * w + j * w = add-mul (i + 1) j w in
      let one : (x % 2 ^ w * 2 ^ (i * w) + lower w (i + 1) xs) / 2 ^ ((i + 1) * w) ≡ t.0 =
      rw (t.1, add_comm (x % 2 ^ w * 2 ^ (i * w)) (t.0 * 2 ^ ((i + 1) * w)))
      (high t.0 ((i + 1) * w) (first_lt x i)) in
      let two : lower w (i + 1) xs / 2 ^ ((i + 1) * w) ≡ t.0 = rw t.1 (shl-shr t.0 ((i + 1) * w)) in
      rw (a, g, ← shr-shr, one, ← two, shr-shr, ← g) (lower_field (i + 1) xs j (omega arith))

  -- ---- the whole lower run

  pub lower_at_lem : (xs : List ℕ) (j : ℕ) → j < length xs → lower w 0 xs / 2 ^ (j * w) % 2 ^ w ≡ get_or xs j 0 % 2 ^ w
  lower_at_lem xs j h = rw (zero-add j) at (lower_field 0 xs j h)

-- Laws of the block of a valid list: its header and its runs, and that reading gives the list back.
use mathlib.Core.Bool.{true}
use mathlib.Core.Path.{◌≡◌, refl, sym, ap, ap₂, ◌∙◌}
use mathlib.Core.List.{List, [], ◌∷◌}
use Prim.Native.Nat.{ℕ, zero, suc, ◌+◌, ◌*◌, ◌/◌, ◌%◌, ◌^◌, ◌≤◌, ◌<◌}
use native.Mathlib.Nat.{add-mul, one-mul, zero-mul, mod-eq_of_lt, le-div_iff_mul-le}
use native.Mathlib.Nat.{div-mul-le_self, le_trans, mul-le-mul_right}
use native.Mathlib.Decide.{dec_lt, ℕ_discrete}
use native.Mathlib.Omega.{arith}
use borrow.Author.Tests.{le-leb, lt-ltb, leb-true}
use lib.Dec.{leb}
use lib.ListN.{length, get_or}
use lib.Pow.{pow_pos, shr_le, shr_mono, split}
use Rattle.rules.specs.Limits.{limit}
use Rattle.rules.specs.Runs.{bit, run_bit, field, words_for}
use Rattle.rules.specs.List.{rising, valid_list, width, zeros, upper, lower, lower_at, upper_at, size, block, two_runs}
use Rattle.rules.specs.ReadList.{list_u, list_n, elements, read_list, decode}
use Rattle.laws.proofs.BitLaws.{bit_shr}
use Rattle.laws.proofs.RunLaws.{field_is, words_bits, words_hold}
use Rattle.laws.proofs.WidthLaws.{low_bits}
use Rattle.listlaws.proofs.RefusalLaws.{version_form, decode_runs}
use Rattle.listlaws.specs.Sound.{Framed}
use Rattle.listlaws.proofs.RisingLaws.{and_parts, rising_parts, rising_length}
use Rattle.listlaws.proofs.ElementLaws.{elements_zero, elements_one}
use Rattle.listlaws.proofs.UpperLaws.{upper_none, upper_below, upper_here, upper_above}
use Rattle.listlaws.proofs.LowerLaws.{lower_at_lem}
use Rattle.listlaws.proofs.BlockLaws.{block_stated, block_version, block_U, block_n, block_body}
use Rattle.listlaws.proofs.BlockLaws.{block_lower, block_upper, block_size, size_is, size_none}

-- ---- reading the runs' numbers

module _ (w : ℕ) (s : List ℕ) (up lo U : ℕ) where
  rising_from : (k x : ℕ) (xs : List ℕ) → rising k U (x ∷ xs) ≡ true → rising x U (x ∷ xs) ≡ true
  unfolding rising
  rising_from k x xs r =
      let t = rising_parts k U x xs r in
      rw (le-leb x x (omega arith), lt-ltb x U t.1) t.2

  -- the b bits from place h + i on hold the list of which they are the upper run
  pub elements_are : (b h i k : ℕ) (xs : List ℕ) → rising k U xs ≡ true → h * 2 ^ w ≤ k → h ≤ U / 2 ^ w
      → b + h ≡ U / 2 ^ w + length xs → ((p : ℕ) → h + i ≤ p → p < h + i + b → run_bit s up p ≡ bit (upper w i xs) p)
      → ((j : ℕ) → j < length xs → field s lo ((i + j) * w) w ≡ get_or xs j 0 % 2 ^ w) → elements s up lo w b h i ≡ xs
  unfolding elements rising
  elements_are zero h i k [] r l g e u v = refl
  elements_are zero h i k (x ∷ xs) r l g e u v = absurd (omega arith)
  elements_are (suc b) h i k [] r l g e u v =
      let z : run_bit s up (h + i) ≡ 0 = u (h + i) (omega arith) (omega arith) ∙ upper_none w i (h + i) in
      elements_zero s up lo w b h i z
      ∙ elements_are b (h + 1) i ((h + 1) * 2 ^ w) [] refl (omega arith) (omega arith) (omega arith)
      (λ p m n. u p (omega arith) (omega arith)) (λ j m. absurd (omega arith))
  elements_are (suc b) h i k (x ∷ xs) r l g e u v =
      let t = rising_parts k U x xs r in
      let c : ℕ = x / 2 ^ w in
      let hc : h ≤ c = (le-div_iff_mul-le (pow_pos w)).1 (omega (arith, t.0)) in
      let cz : c ≤ U / 2 ^ w = shr_mono w (omega (arith, t.1)) in
      elim (ℕ_discrete h c) [
        | yes q ↦
            let o : run_bit s up (h + i) ≡ 1 =
            u (h + i) (omega arith) (omega arith) ∙ rw q (upper_here w U k x xs i r) in
            let z : i + 0 ≡ i = omega arith in
            let y : h * 2 ^ w + field s lo (i * w) w ≡ x = rw (q, rw z at (v 0 (omega arith))) (split x w) in
            elements_one s up lo w b h i o
            ∙ ap₂ (λ (a : ℕ) (m : List ℕ). a ∷ m) y
            (elements_are b h (i + 1) (x + 1) xs t.2 (omega (arith, t.0)) g (omega arith)
            (λ p m n. u p (omega arith) (omega arith) ∙ upper_above w U k x xs i r p (omega (arith, q)))
            (λ j m.
            let a : i + 1 + j ≡ i + suc j = omega arith in
            rw a (v (suc j) (omega arith))))
        | no q ↦
            let hc' : suc h ≤ c = omega (arith, q) in
            let z : run_bit s up (h + i) ≡ 0 =
            u (h + i) (omega arith) (omega arith) ∙ upper_below w U k x xs i r (h + i) (omega arith) in
            let m : (h + 1) * 2 ^ w ≤ x =
            le_trans (mul-le-mul_right (2 ^ w) (omega arith)) (div-mul-le_self x (2 ^ w)) in
            elements_zero s up lo w b h i z
            ∙ elements_are b (h + 1) i x (x ∷ xs) (rising_from k x xs r) m (omega arith) (omega arith)
            (λ p a d. u p (omega arith) (omega arith)) v
      ]

-- ---- a valid list

pub valid_parts : (U : ℕ) (xs : List ℕ) → valid_list U xs ≡ true → (U ≤ limit) × (rising 0 U xs ≡ true)
unfolding valid_list
valid_parts U xs v =
    let p = and_parts (leb U limit) (rising 0 U xs) v in
    (leb-true U limit p.0, p.1)

pub valid_from : (U : ℕ) (xs : List ℕ) → U ≤ limit → rising 0 U xs ≡ true → valid_list U xs ≡ true
unfolding valid_list
valid_from U xs l r = rw (le-leb U limit l) r

pub field_in : (n w j : ℕ) → j < n → j * w + w ≤ n * w
field_in n w j h =
    let e : (j + 1) * w ≡ j * w + w = add-mul j 1 w ∙ ap (λ (k : ℕ). j * w + k) (one-mul w) in
    rw (← e) (mul-le-mul_right w (omega arith))

-- the elements that are read, n at least 1
pub read_is : (s : List ℕ) (U n : ℕ) → 0 < n → read_list s U n
    ≡ elements s (upper_at U n (width U n)) (lower_at U (width U n)) (width U n) (n + zeros U (width U n)) 0 0
unfolding read_list
read_is s U zero h = absurd (omega arith)
read_is s U (suc m) h = refl

pub read_none : (s : List ℕ) (U : ℕ) → read_list s U 0 ≡ []
unfolding read_list
read_none s U = refl

module _ (U : ℕ) (xs : List ℕ) (v : valid_list U xs ≡ true) where
  abbrev n : ℕ
  n = length xs

  abbrev w : ℕ
  w = width U (length xs)

  abbrev s : List ℕ
  s = block U xs

  within : U ≤ limit
  within = (valid_parts U xs v).0

  rises : rising 0 U xs ≡ true
  rises = (valid_parts U xs v).1

  pub valid_below : length xs ≤ U
  valid_below = omega (arith, rising_length 0 U xs rises (omega arith))

  pub valid_U : list_u (block U xs) ≡ U
  valid_U = block_U U xs ∙ mod-eq_of_lt (omega (arith, within))

  pub valid_n : list_n (block U xs) ≡ length xs
  valid_n = block_n U xs ∙ mod-eq_of_lt (omega (arith, within, valid_below))

  module _ (some : 0 < length xs) where
    pub upper_bits : (p : ℕ) → p < 64 * words_for (n + zeros U w)
        → run_bit (block U xs) (upper_at U n w) p ≡ bit (upper w 0 xs) p
    upper_bits =
        words_bits s (upper_at U n w) (words_for (n + zeros U w)) (upper w 0 xs) (block_upper U xs n w refl some refl)

    pub lower_bits : (p : ℕ) → p < 64 * words_for (n * w) → run_bit (block U xs) (lower_at U w) p ≡ bit (lower w 0 xs) p
    lower_bits = words_bits s (lower_at U w) (words_for (n * w)) (lower w 0 xs) (block_lower U xs n w refl some refl)

    pub lower_fields : (j : ℕ) → j < length xs → field (block U xs) (lower_at U w) (j * w) w ≡ get_or xs j 0 % 2 ^ w
    lower_fields j h =
        let g = field_in n w j h in
        sym (field_is s (lower_at U w) (j * w) (lower w 0 xs / 2 ^ (j * w)) w (λ i l.
        bit_shr (lower w 0 xs) (j * w) i ∙ sym (lower_bits (j * w + i) (omega (arith, words_hold (n * w))))))
        ∙ lower_at_lem w xs j h

    read_back : elements s (upper_at U n w) (lower_at U w) w (n + zeros U w) 0 0 ≡ xs
    unfolding zeros
    read_back =
        elements_are w s (upper_at U n w) (lower_at U w) U (n + zeros U w) 0 0 0 xs rises
        (omega (arith, zero-mul (2 ^ w))) (omega arith) (omega arith)
        (λ p l h. upper_bits p (omega (arith, words_hold (n + zeros U w))))
        (λ j h.
        let z : 0 + j ≡ j = omega arith in
        rw z (lower_fields j h))

    small_some : length s < 2 ^ 24
    unfolding upper_at lower_at zeros words_for
    small_some = omega (
      arith,
      block_size U xs,
      size_is U n some,
      low_bits U n some valid_below (omega (arith, within)),
      shr_le U w,
      within,
      valid_below,
    )

  is_nil : (l : List ℕ) → length l ≡ 0 → l ≡ []
  is_nil [] e = refl
  is_nil (x ∷ l) e = absurd (omega arith)

  pub valid_small : length (block U xs) < 2 ^ 24
  valid_small = elim (dec_lt 0 n) [
    | yes a ↦ small_some a
    | no b ↦ let z : length xs ≡ 0 = omega arith in omega (arith, block_size U xs, ap (size U) z, size_none U)
  ]

  pub valid_short : length (block U xs) < 2 ^ 32
  valid_short = omega (arith, valid_small)

  pub valid_read : decode (block U xs) ≡ xs
  valid_read =
      decode_runs s (version_form two_runs s (block_version U xs))
      ∙ ap₂ (λ (a b : ℕ). read_list s a b) valid_U valid_n
      ∙ elim (dec_lt 0 n) [
        | yes a ↦ read_is s U n a ∙ read_back a
        | no b ↦ let z : length xs ≡ 0 = omega arith in ap (read_list s U) z ∙ read_none s U ∙ sym (is_nil xs z)
      ]

  pub valid_framed : Framed (block U xs)
  valid_framed = record {
    header = omega (arith, block_body U xs);
    length_stated = block_stated U xs ∙ mod-eq_of_lt valid_short;
    version_is = block_version U xs;
    within = omega (arith, valid_U, within);
    below = omega (arith, valid_U, valid_n, valid_below);
    length_is = block_size U xs ∙ sym (ap₂ size valid_U valid_n);
  }

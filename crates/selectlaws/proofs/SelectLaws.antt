-- Laws behind `select_by`: the byte that holds a one, by the counts of ByteLaws, and the one within it.
use mathlib.Core.Path.{◌≡◌, refl, sym, ap, ap₂, ◌∙◌, subst}
use mathlib.Core.Logic.{◌⊎◌, inl, inr}
use Prim.Native.Nat.{ℕ, zero, suc, ◌+◌, ◌-◌, ◌*◌, ◌/◌, ◌%◌, ◌^◌, ◌≤◌, ◌<◌, min}
use native.Mathlib.Nat.{mul-le-mul_right, mod-eq_of_lt, mod-one, mul-add, mul_assoc, mod-lt}
use native.Mathlib.Decide.{dec_lt}
use native.Mathlib.Omega.{arith}
use lib.Bits.{bit_and, bit_or, or_block, or_shifted_r, or_add_and, and_le_l, and_high}
use lib.Bits.{and_mask, and_step, and_self, and_block, and_zero_r, and_le_r}
use lib.Count.{ones, ones-le, count_trailing_zeros}
use lib.Dec.{lit<}
use lib.Pow.{pow_pos}
use Rattle.laws.proofs.BitLaws.{digit}
use Rattle.laws.proofs.CountLaws.{ones_parts}
use Rattle.fields.specs.Words.{place_of_one}
use Rattle.selectlaws.specs.ByteCounts.{each, running_ones, marked}
use Rattle.fields.proofs.WordLaws.{place_past, place_here, place_next, place_shl, place_trailing}
use Rattle.fields.proofs.WordLaws.{place_mod, place_low, place_high}
use Rattle.selectlaws.proofs.ByteLaws.{count_before}

-- ---- the lowest one taken away

-- `x & (x - 1)`
pub place_drop : (k x j : ℕ) → 0 < x → place_of_one k (bit_and x (x - 1)) j ≡ place_of_one k x (suc j)
unfolding place_of_one
place_drop zero x j h = refl
place_drop (suc k) x j h =
    elim (digit x) [
      | inl e ↦
          let a : (x - 1) / 2 ≡ x / 2 - 1 = omega arith in
          let b : (x - 1) % 2 ≡ 1 = omega arith in
          let s : bit_and x (x - 1) ≡ bit_and (x / 2) (x / 2 - 1) * 2 + min 0 1 = and_step x (x - 1) ∙ rw (a, b, e) in
          let y : ℕ = bit_and x (x - 1) in
          let h : y / 2 ≡ bit_and (x / 2) (x / 2 - 1) = omega (arith, s) in
          place_past k y j (omega (arith, s)) ∙ rw h (ap suc (place_drop k (x / 2) j (omega arith)))
          ∙ sym (place_past k x (suc j) e)
      | inr e ↦
          let a : (x - 1) / 2 ≡ x / 2 = omega arith in
          let b : (x - 1) % 2 ≡ 0 = omega arith in
          let s : bit_and x (x - 1) ≡ x / 2 * 2 + min 1 0 = and_step x (x - 1) ∙ rw (a, b, e, and_self) in
          let y : ℕ = bit_and x (x - 1) in
          let h : y / 2 ≡ x / 2 = omega (arith, s) in
          place_past k y j (omega (arith, s)) ∙ ap (λ (z : ℕ). suc (place_of_one k z j)) h ∙ sym (place_next k x j e)
    ]

-- ---- the byte that holds a one

each_mul : (m b : ℕ) → each m b ≡ b * each m 1
each_mul zero b = omega arith
each_mul (suc m) b = omega (arith, each_mul m b, mul-add b (each m 1 * 256) 1, mul_assoc b (each m 1) 256)

-- no byte borrows of another
pub marked_fits : (m s j : ℕ) → j < 128 → (j + 1) * each m 1 ≤ bit_or s (each m 128)
marked_fits m s j h =
    let g : (j + 1) * each m 1 ≤ 128 * each m 1 = mul-le-mul_right (each m 1) (omega arith) in
    omega (arith, g, each_mul m 128, or_add_and s (each m 128), and_le_l s (each m 128))

marked_byte : (m s v j : ℕ) → v < 128 → j < 128
    → marked (suc m) (s * 256 + v) j ≡ marked m s j * 256 + bit_and (128 + v - (j + 1)) 128
marked_byte m s v j hv hj =
    let A : ℕ = bit_or s (each m 128) in
    let B : ℕ = (j + 1) * each m 1 in
    let q : ℕ = 128 + v - (j + 1) in
    let o : bit_or (s * 2 ^ 8 + v) (each m 128 * 2 ^ 8 + 128) ≡ A * 2 ^ 8 + (128 + v) =
    or_block 8 s (each m 128) v 128 (omega arith) (lit< tt) ∙ ap (λ (y : ℕ). A * 2 ^ 8 + y) (or_shifted_r 1 7 v hv) in
    let d : bit_or (s * 2 ^ 8 + v) (each m 128 * 2 ^ 8 + 128) - (j + 1) * (each m 1 * 256 + 1) ≡ (A - B) * 2 ^ 8 + q =
    omega (arith, o, mul-add (j + 1) (each m 1 * 256) 1, mul_assoc (j + 1) (each m 1) 256, marked_fits m s j hj) in
    ap (λ (y : ℕ). bit_and y (each m 128 * 2 ^ 8 + 128)) d
    ∙ and_block 8 (A - B) (each m 128) q 128 (omega arith) (lit< tt)

-- a byte whose count passes j, and one whose count does not
marked_here : (m s v j : ℕ) → v < 128 → j < v → marked (suc m) (s * 256 + v) j ≡ (marked m s j * 2 + 1) * 2 ^ 7
marked_here m s v j hv h = omega (arith, marked_byte m s v j hv (omega arith), and_high (128 + v - (j + 1)) 1 7)

marked_past : (m s v j : ℕ) → v ≤ j → j < 128 → marked (suc m) (s * 256 + v) j ≡ marked m s j * 2 ^ 8
marked_past m s v j h hj = omega (arith, marked_byte m s v j (omega arith) hj, and_high (128 + v - (j + 1)) 1 7)

ones_none : (x : ℕ) → ones (x % 2 ^ 0) ≡ 0
unfolding ones
ones_none x = ap ones (mod-one x)

-- the first mark, in the lowest byte or above it
mark_here : (m t : ℕ) → place_of_one (8 * suc m) ((t * 2 + 1) * 2 ^ 7) 0 ≡ 7
mark_here m t =
    let e : 8 * suc m ≡ 7 + suc (8 * m) = omega arith in
    rw e (place_shl 7 (suc (8 * m)) (t * 2 + 1) 0 ∙ rw (place_here (8 * m) (t * 2 + 1) (omega arith)))

mark_past : (m t : ℕ) → place_of_one (8 * suc m) (t * 2 ^ 8) 0 ≡ 8 + place_of_one (8 * m) t 0
mark_past m t =
    let e : 8 * suc m ≡ 8 + 8 * m = omega arith in
    rw e (place_shl 8 (8 * m) t 0)

pub record Found (m a x j t : ℕ) : Type 0 where
  pub byte : ℕ
  pub within : byte < m
  pub place : place_of_one (8 * m) t 0 ≡ 8 * byte + 7
  pub below : a + ones (x % 2 ^ (8 * byte)) ≤ j
  pub reach : j < a + ones (x % 2 ^ (8 * byte + 8))

-- no byte's count passes j, or the first whose does is found
abbrev pub Search : ℕ → ℕ → ℕ → ℕ → ℕ → Type 0
Search m a x j t = ((t ≡ 0) × (a + ones (x % 2 ^ (8 * m)) ≤ j)) ⊎ Found m a x j t

search_here : (m a x j t : ℕ) → a ≤ j → j < a + ones (x % 256) → Found (suc m) a x j ((t * 2 + 1) * 2 ^ 7)
search_here m a x j t h p =
    record {
      byte = 0;
      within = omega arith;
      place = mark_here m t;
      below = omega (arith, ones_none x);
      reach = p;
    }

search_past : (m a x j t : ℕ) → Search m (a + ones (x % 256)) (x / 256) j t → Search (suc m) a x j (t * 2 ^ 8)
search_past m a x j t (inl (z, o)) =
    let e : 8 * suc m ≡ 8 + 8 * m = omega arith in
    inl (omega (arith, z), rw e (omega (arith, o, ones_parts x 8 (8 * m))))
search_past m a x j t (inr f) =
    let i : ℕ = f.byte in
    let g : 8 * suc i ≡ 8 + 8 * i = omega arith in
    let k : 8 + 8 * i + 8 ≡ 8 + (8 * i + 8) = omega arith in
    inr record {
      byte = suc i;
      within = omega (arith, f.within);
      place = mark_past m t ∙ omega (arith, f.place);
      below = rw g (omega (arith, f.below, ones_parts x 8 (8 * i)));
      reach = rw (g, k) (omega (arith, f.reach, ones_parts x 8 (8 * i + 8)));
    }

searched : (m a x j : ℕ) → a ≤ j → j < 128 → a + 8 * m < 128 → Search m a x j (marked m (running_ones m a x) j)
unfolding running_ones
searched zero a x j h hj l = inl (and_zero_r (bit_or 0 0 - (j + 1) * 0), omega (arith, ones_none x))
searched (suc m) a x j h hj l =
    let v : ℕ = a + ones (x % 256) in
    let s : ℕ = running_ones m v (x / 256) in
    let o : ones (x % 256) ≤ 8 = ones-le 8 (x % 256) (mod-lt x (pow_pos 8)) in
    elim (dec_lt j v) [
      | yes p ↦ subst (Search (suc m) a x j) (sym (marked_here m s v j (omega arith) p))
          (inr (search_here m a x j (marked m s j) h p))
      | no p ↦ subst (Search (suc m) a x j) (sym (marked_past m s v j (omega arith) hj))
          (search_past m a x j (marked m s j) (searched m v (x / 256) j (omega arith) hj (omega arith)))
    ]

-- ---- within the byte

-- the one number j of the word, as a one of the byte that holds it
place_byte : (x j i : ℕ) → i < 8 → ones (x % 2 ^ (8 * i)) ≤ j → j < ones (x % 2 ^ (8 * i + 8))
    → 8 * i + place_of_one 8 (x / 2 ^ (8 * i) % 2 ^ 8) (j - ones (x % 2 ^ (8 * i))) ≡ place_of_one 64 x j
place_byte x j i h b r =
    let c : ℕ = ones (x % 2 ^ (8 * i)) in
    let y : ℕ = x / 2 ^ (8 * i) in
    let d : ℕ = 56 - 8 * i in
    let e : 8 * i + (8 + d) ≡ 64 = omega arith in
    let f : c + (j - c) ≡ j = omega arith in
    let low : place_of_one (8 + d) y (j - c) ≡ place_of_one 8 y (j - c) =
    place_low 8 d y (j - c) (omega (arith, ones_parts x (8 * i) 8)) in
    let all : place_of_one (8 * i + (8 + d)) x (c + (j - c)) ≡ 8 * i + place_of_one (8 + d) y (j - c) =
    place_high (8 * i) (8 + d) x (j - c) in
    ap (λ (q : ℕ). 8 * i + q) (place_mod 8 y (j - c) ∙ sym low) ∙ sym all ∙ ap₂ (λ (k q : ℕ). place_of_one k x q) e f

-- ---- as `select_by` has them, where s holds the counts added up and t is the first mark's place

abbrev before : ℕ → ℕ → ℕ
before s t = bit_and ((s * 2 ^ 8) % 2 ^ 64 / 2 ^ (t - 7)) 255

pub record OneInByte (x j s t : ℕ) : Type 0 where
  pub least : 7 ≤ t
  pub most : t < 64
  pub below : before s t ≤ j
  pub few : j - before s t < 8
  pub byte : bit_and (x / 2 ^ (t - 7)) 255 < 256
  pub lands : (r : ℕ) → r ≡ place_of_one 8 (bit_and (x / 2 ^ (t - 7)) 255) (j - before s t) → t - 7 + r ≡ place_of_one 64 x j

one_in_byte_at : (x j t i : ℕ) → t ≡ 8 * i + 7 → i < 8 → ones (x % 2 ^ (8 * i)) ≤ j → j < ones (x % 2 ^ (8 * i + 8))
    → OneInByte x j (running_ones 8 0 x) t
one_in_byte_at x j t i e h b r =
    let p : t - 7 ≡ 8 * i = omega arith in
    let q : before (running_ones 8 0 x) t ≡ ones (x % 2 ^ (8 * i)) =
    ap (λ (n : ℕ). bit_and ((running_ones 8 0 x * 2 ^ 8) % 2 ^ 64 / 2 ^ n) 255) p ∙ count_before x i h in
    let y : bit_and (x / 2 ^ (t - 7)) 255 ≡ x / 2 ^ (8 * i) % 2 ^ 8 =
    and_mask (x / 2 ^ (t - 7)) 8 ∙ ap (λ (n : ℕ). x / 2 ^ n % 2 ^ 8) p in
    record {
      least = omega arith;
      most = omega arith;
      below = omega (arith, q);
      few =
          omega (
            arith,
            q,
            ones_parts x (8 * i) 8,
            ones-le 8 (x / 2 ^ (8 * i) % 2 ^ 8)
                (mod-lt (x / 2 ^ (8 * i)) (pow_pos 8)),
          );
      byte = omega (arith, and_le_r (x / 2 ^ (t - 7)) 255);
      lands = λ n u. ap₂ ◌+◌ p (u ∙ ap₂ (place_of_one 8) y (ap (λ (k : ℕ). j - k) q)) ∙ place_byte x j i h b r;
    }

pub one_in_byte : (x j s p : ℕ) → s ≡ running_ones 8 0 x → p ≡ marked 8 s j → x < 2 ^ 64 → j < ones x
    → OneInByte x j s (count_trailing_zeros 64 p)
one_in_byte x j s p counts marks fits some =
    let small : j < 64 = omega (arith, ones-le 64 x fits) in
    let outcome : Search 8 0 x j p =
    subst (Search 8 0 x j) (ap (λ (n : ℕ). marked 8 n j) (sym counts) ∙ sym marks)
    (searched 8 0 x j (omega arith) (omega arith) (lit< tt)) in
    elim outcome [
      | inl n ↦ absurd (omega (arith, rw (mod-eq_of_lt fits) at n.1))
      | inr f ↦ subst (λ (n : ℕ). OneInByte x j n (count_trailing_zeros 64 p)) (sym counts)
          (one_in_byte_at x j (count_trailing_zeros 64 p) f.byte (place_trailing 64 p ∙ f.place) f.within
          (omega (arith, f.below)) (omega (arith, f.reach)))
    ]

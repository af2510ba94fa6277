-- Laws of numbers stored side by side, and of a run whose low words are stored.
use mathlib.Core.Path.{◌≡◌, refl, sym, ap, ◌∙◌, subst}
use mathlib.Core.Logic.{◌⊎◌, inl, inr}
use mathlib.Core.List.{List}
use Prim.Native.Nat.{ℕ, suc, ◌+◌, ◌-◌, ◌*◌, ◌/◌, ◌%◌, ◌^◌, ◌≤◌, ◌<◌}
use native.Mathlib.Nat.{mod-eq_of_lt, mul-suc, mul-le-mul_left, add_comm, div-one}
use native.Mathlib.Decide.{dec_lt}
use native.Mathlib.Omega.{arith}
use native.Mathlib.Numerals.{add-one}
use lib.ListN.{length}
use lib.Pow.{shr-shr}
use lib.Seq.{sets, length-sets}
use Rattle.rules.specs.Bytes.{be, be_at}
use Rattle.laws.proofs.BitLaws.{drop_low, drop_high}
use Rattle.laws.proofs.ByteLaws.{Alike, be_at_same, length_be, sets_other, be_at_sets, read_sets}
use Rattle.filllaws.specs.Filling.{Stored, Flushed, Held}

-- ---- numbers side by side

module _ (k at : ℕ) (v : ℕ → ℕ) where
  pub stored_none : (a : ℕ) (d : List ℕ) → Stored k at v a a d d
  stored_none a d = record {
    long = refl;
    others = λ i h. refl;
    numbers = λ q l h. absurd (omega arith);
  }

  module _ (a b : ℕ) (d e : List ℕ) (s : Stored k at v a b d e) where
    -- bytes that lie apart are read as before
    pub stored_apart : (m p : ℕ) → (p + m ≤ at + k * a) ⊎ (at + k * b ≤ p) → be_at m e p ≡ be_at m d p
    stored_apart m p (inl h) = be_at_same m e d p (λ i l u. s.others i (inl (omega arith)))
    stored_apart m p (inr h) = be_at_same m e d p (λ i l u. s.others i (inr (omega arith)))

    pub stored_more : a ≤ b → at + k * b + k ≤ length d → v b < 256 ^ k → (t : List ℕ)
        → t ≡ sets e (at + k * b) (be k (v b)) → Stored k at v a (b + 1) d t
    stored_more ab room small t q = rw q (record {
      long = length-sets e (at + k * b) (be k (v b)) ∙ s.long;
      others = λ i h. sets_other (be k (v b)) e (at + k * b) i (out i h) ∙ s.others i (wider i h);
      numbers = λ j l h. elim (dec_lt j b) [
        | yes y ↦ before j y ∙ s.numbers j l y
        | no y ↦
            let g : b ≡ j = omega arith in
            subst (λ n. be_at k (sets e (at + k * b) (be k (v b))) (at + k * n) ≡ v n) g
            (read_sets k (v b) e (at + k * b) (omega (arith, s.long)) ∙ mod-eq_of_lt small)
      ];
    })
      where
        one : k * (b + 1) ≡ k * b + k
        one = rw (add-one, mul-suc) (omega arith)

        below : k * a ≤ k * b
        below = mul-le-mul_left k ab

        out : (i : ℕ) → (i < at + k * a) ⊎ (at + k * (b + 1) ≤ i)
            → (i < at + k * b) ⊎ (at + k * b + length (be k (v b)) ≤ i)
        out i (inl h) = inl (omega (arith, below))
        out i (inr h) = inr (omega (arith, one, length_be k (v b)))

        wider : (i : ℕ) → (i < at + k * a) ⊎ (at + k * (b + 1) ≤ i) → (i < at + k * a) ⊎ (at + k * b ≤ i)
        wider i (inl h) = inl h
        wider i (inr h) = inr (omega (arith, one))

        before : (j : ℕ) → j < b → be_at k (sets e (at + k * b) (be k (v b))) (at + k * j) ≡ be_at k e (at + k * j)
        before j y =
            let g : k * suc j ≤ k * b = mul-le-mul_left k y in
            be_at_sets k (be k (v b)) e (at + k * b) (at + k * j) (inl (omega (arith, g, mul-suc k j)))

-- ---- words of a number

module _ (at k v : ℕ) (d : List ℕ) where
  pub flushed_none : (m r : ℕ) → m ≡ 0 → r ≡ v → Flushed at k m v r d d
  flushed_none m r e g =
      let z : k ≡ k + m = omega arith in
      record {
        stored = subst (λ n. Stored 8 at (λ j. v / 2 ^ (64 * (j - k)) % 2 ^ 64) k n d d) z
            (stored_none 8 at (λ j. v / 2 ^ (64 * (j - k)) % 2 ^ 64) k d);
        rest = rw e (g ∙ sym (div-one v));
      }

  pub flushed_one : (m r lo : ℕ) (e : List ℕ) → m ≡ 1 → at + 8 * k + 8 ≤ length d → e ≡ sets d (at + 8 * k) (be 8 lo)
      → lo ≡ v % 2 ^ 64 → r ≡ v / 2 ^ 64 → Flushed at k m v r d e
  flushed_one m r lo e one room s l g =
      let z : k + 1 ≡ k + m = omega arith in
      let w : lo ≡ v / 2 ^ (64 * (k - k)) % 2 ^ 64 = let n : 64 * (k - k) ≡ 0 = omega arith in rw (n, div-one) l in
      record {
        stored = subst (λ n. Stored 8 at (λ j. v / 2 ^ (64 * (j - k)) % 2 ^ 64) k n d e) z
            (stored_more 8 at (λ j. v / 2 ^ (64 * (j - k)) % 2 ^ 64) k k d d
            (stored_none 8 at (λ j. v / 2 ^ (64 * (j - k)) % 2 ^ 64) k d) (omega arith) room (omega arith) e
            (s ∙ ap (λ n. sets d (at + 8 * k) (be 8 n)) w));
        rest = rw one g;
      }

-- ---- a run whose low words are stored

pub held_none : (s : List ℕ) (at : ℕ) → Held s at 0 0 0
held_none s at = record { written = λ j h. absurd (omega arith); rest = refl }

module _ (s : List ℕ) (at v k r : ℕ) (a : Held s at v k r) where
  pub held_alike : (t : List ℕ) → Alike t s at (at + 8 * k) → Held t at v k r
  held_alike t l = record {
    written = λ j h. be_at_same 8 t s (at + 8 * j) (λ i m u. l i (omega arith) (omega arith)) ∙ a.written j h;
    rest = a.rest;
  }

  -- more bits, above those that are stored
  pub held_add : (q b : ℕ) → Held s at (v + q * 2 ^ (64 * k + b)) k (r + q * 2 ^ b)
  held_add q b = record {
    written = λ j h.
        let g : 64 * k + b ≡ 64 * (k - suc j) + b + 64 + 64 * j = omega arith in
        a.written j h ∙ sym (rw (g, add_comm v (q * 2 ^ (64 * (k - suc j) + b + 64 + 64 * j)), drop_low)
        (drop_high q (v / 2 ^ (64 * j)) (64 * (k - suc j) + b) 64));
    rest =
        let g : 64 * k + b ≡ b + 64 * k = omega arith in
        rw (a.rest, g, add_comm v (q * 2 ^ (b + 64 * k)), drop_low) (add_comm (v / 2 ^ (64 * k)) (q * 2 ^ b));
  }

  pub held_flushed : (m p : ℕ) (t : List ℕ) → Flushed at k m r p s t → Held t at v (k + m) p
  held_flushed m p t f = record {
    written = λ j h. elim (dec_lt j k) [
      | yes y ↦ stored_apart 8 at (λ i. r / 2 ^ (64 * (i - k)) % 2 ^ 64) k (k + m) s t f.stored 8 (at + 8 * j)
          (inl (omega arith)) ∙ a.written j y
      | no y ↦
          let g : 64 * k + 64 * (j - k) ≡ 64 * j = omega arith in
          f.stored.numbers j (omega arith) h ∙ rw (a.rest, shr-shr, g)
    ];
    rest =
        let g : 64 * k + 64 * m ≡ 64 * (k + m) = omega arith in
        rw (f.rest, a.rest, shr-shr, g);
  }

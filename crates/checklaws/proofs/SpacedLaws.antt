-- Laws of a list without low parts: its elements climb where no two ones of its upper run are neighbours, and are below
-- the bound where the run's last bit is 0.
use mathlib.Core.Bool.{Bool, true, ◌&&◌}
use mathlib.Core.Logic.{inl, inr}
use mathlib.Core.Path.{◌≡◌, refl, sym, ap, ◌∙◌}
use mathlib.Core.List.{List}
use Prim.Native.Nat.{ℕ, zero, suc, ◌+◌, ◌-◌, ◌*◌, ◌/◌, ◌%◌, ◌^◌, ◌≤◌, ◌<◌}
use native.Mathlib.Numerals.{add-one}
use native.Mathlib.Decide.{dec_lt}
use native.Mathlib.Omega.{arith}
use borrow.Author.Tests.{le-leb, leb-true}
use lib.Bits.{bit_and, bit_or}
use lib.Count.{ones}
use lib.Dec.{leb}
use Rattle.rules.specs.Runs.{run_word, run_bit, words_for}
use Rattle.rules.specs.Counts.{ones_below}
use Rattle.rules.specs.List.{rising}
use Rattle.rules.specs.ReadList.{elements}
use Rattle.laws.proofs.BitLaws.{one_zero}
use Rattle.laws.proofs.CountLaws.{below_none, ones_below_le, next_word}
use Rattle.laws.proofs.RunLaws.{run_cases, field_none, ones_whole}
use Rattle.shape.specs.declared.Shape.{Shape}
use Rattle.listlaws.specs.Sound.{climbs, least}
use Rattle.listlaws.proofs.RisingLaws.{and_parts, rising_climbs}
use Rattle.checklaws.specs.Check.{Tail, Laid, Holds, passed, Climbed, bit_before, Spaced, Pointed, Ready, Trimmed}
use Rattle.checklaws.proofs.NearLaws.{before_cases, near_none, near_some, next_carry}
use Rattle.checklaws.proofs.HoldLaws.{pointed_start}
use Rattle.checklaws.proofs.ClimbLaws.{element_at, climbed_zeros, climbed_one}

module _ (s : List ℕ) (g : Shape) (flat : g.w ≡ 0) where
  abbrev up : ℕ
  up = g.upper

  abbrev next : ℕ → ℕ
  next p = least 0 (passed s g p)

  element_flat : (q i : ℕ) → element_at s g q i ≡ q - i
  element_flat q i = rw (flat, field_none s g.lower (i * 0)) (omega arith)

  -- the least that may follow the first p bits, and whether their elements climb
  record Flat (p : ℕ) : Type 0 where
    below : next p + ones_below s g.upper p ≤ p + bit_before s g.upper p
    behind : bit_before s g.upper p ≡ 1 → next p + ones_below s g.upper p ≡ p + 1
    spaced : climbs 0 (passed s g p) ≡ true → Spaced s g.upper p
    climb : Spaced s g.upper p → climbs 0 (passed s g p) ≡ true

  flat_start : Flat 0
  unfolding elements climbs least bit_before
  flat_start = record {
    below = omega (arith, below_none s up);
    behind = λ e. absurd (omega arith);
    spaced = λ _ i h. absurd (omega arith);
    climb = λ _. refl;
  }

  module _ (p : ℕ) (f : Flat p) where
    here : Climbed s g p (ones_below s g.upper p) (next p) (climbs 0 (passed s g p))
    here = record { counted = refl; climb = refl; least_is = refl }

    shorter : Spaced s g.upper (suc p) → Spaced s g.upper p
    shorter z i h = z i (omega arith)

    longer : Spaced s g.upper p → (run_bit s g.upper p ≡ 1 → bit_before s g.upper p ≡ 1 → ⊥)
        → Spaced s g.upper (suc p)
    longer z e i h a b = elim (dec_lt i p) [
      | yes u ↦ z i u a b
      | no u ↦
          let q : i ≡ p = omega arith in
          e (rw q at a) (rw q at b)
    ]

    before_le : bit_before s g.upper p ≤ 1
    before_le = elim (before_cases s up p) [
      | inl e ↦ omega arith
      | inr e ↦ omega arith
    ]

    flat_zero : run_bit s g.upper p ≡ 0 → Flat (suc p)
    unfolding bit_before
    flat_zero e =
        let alone : (j : ℕ) → p ≤ j → j < suc p → run_bit s g.upper j ≡ 0 = λ j a b.
        let q : p ≡ j = omega arith in
        rw q at e in
        let c = climbed_zeros s g p (ones_below s up p) (next p) (climbs 0 (passed s g p)) here (suc p) (omega arith) alone in
        record {
          below = omega (arith, f.below, before_le, c.counted, c.least_is, e);
          behind = λ o. absurd (one_zero o e);
          spaced = λ r. longer (f.spaced (sym c.climb ∙ r)) (λ o. absurd (one_zero o e));
          climb = λ z. c.climb ∙ f.climb (shorter z);
        }

    one_step : run_bit s g.upper p ≡ 1
        → Climbed s g (suc p) (ones_below s g.upper p + 1) (p - ones_below s g.upper p + 1)
        (climbs 0 (passed s g p) && leb (next p) (p - ones_below s g.upper p))
    one_step e =
        rw (add-one p, element_flat) at (climbed_one s g p (ones_below s up p) (next p) (climbs 0 (passed s g p)) here p
        (omega arith) (λ j a b. absurd (omega arith)) e)

    flat_one : run_bit s g.upper p ≡ 1 → Flat (suc p)
    unfolding bit_before
    flat_one e =
        let c = one_step e in
        let few = ones_below_le s up p in
        let sum : next (suc p) + ones_below s up (suc p) ≡ suc p + 1 = omega (arith, c.counted, c.least_is, few) in
        let b : Bool = climbs 0 (passed s g p) in
        let t : Bool = leb (next p) (p - ones_below s up p) in
        record {
          below = omega (arith, sum, e);
          behind = λ _. sum;
          spaced = λ r.
              let a = and_parts b t (sym c.climb ∙ r) in
              longer (f.spaced a.0) (λ _ o.
              omega (arith, leb-true (next p) (p - ones_below s up p) a.1, f.behind o, few));
          climb = λ z.
              let far : next p + ones_below s up p ≤ p = elim (before_cases s up p) [
                | inl o ↦ omega (arith, f.below, o)
                | inr o ↦ absurd (z p (omega arith) e o)
              ] in
              c.climb ∙ rw (f.climb (shorter z), le-leb (next p) (p - ones_below s up p) (omega (arith, far)));
        }

  flat_at : (p : ℕ) → Flat p
  flat_at zero = flat_start
  flat_at (suc p) = elim (run_cases s up p) [
    | inl e ↦ flat_zero p (flat_at p) e
    | inr e ↦ flat_one p (flat_at p) e
  ]

  -- ---- the whole run

  module _ (d : Trimmed s g) where
    abbrev bits : ℕ
    bits = g.bits

    abbrev last : ℕ
    last = g.bits - 1

    end_is : suc (g.bits - 1) ≡ g.bits
    end_is = omega (arith, d.laid.some, d.laid.most)

    -- below U there are as many zeros as pages
    sum_is : g.bits ≡ g.n + g.u
    sum_is = d.laid.zeros_are ∙ rw flat (omega arith)

    before_end : bit_before s g.upper g.bits ≡ run_bit s g.upper (g.bits - 1)
    unfolding bit_before
    before_end = ap (bit_before s up) (sym end_is)

    counted_bits : ones_below s g.upper (64 * words_for g.bits) ≡ g.n → ones_below s g.upper g.bits ≡ g.n
    counted_bits e = sym (ones_whole s up bits d.upper_spare) ∙ e

    pub spaced_rises : ones_below s g.upper (64 * words_for g.bits) ≡ g.n → Spaced s g.upper (64 * words_for g.bits)
        → run_bit s g.upper (g.bits - 1) ≡ 0 → rising 0 g.u (passed s g g.bits) ≡ true
    unfolding words_for
    spaced_rises n z e =
        let f = flat_at bits in
        let c = f.climb (λ i h. z i (omega arith)) in
        rising_climbs 0 g.u (passed s g bits) (omega arith)
        ∙ rw (c, le-leb (next bits) g.u (omega (arith, f.below, before_end, e, counted_bits n, sum_is)))

    -- what a sound run shows
    module _ (a : Holds s g) where
      parts : (climbs 0 (passed s g g.bits) ≡ true) × (next g.bits ≤ g.u)
      parts =
          let p = and_parts (climbs 0 (passed s g bits)) (leb (next bits) g.u)
          (rw (rising_climbs 0 g.u (passed s g bits) (omega arith)) at a.rises) in
          (p.0, leb-true (next bits) g.u p.1)

      pub holds_spaced : Spaced s g.upper (64 * words_for g.bits)
      holds_spaced i h o b = elim (dec_lt i bits) [
        | yes u ↦ (flat_at bits).spaced parts.0 i u o b
        | no u ↦ one_zero o (a.upper_spare i (omega arith) h)
      ]

      pub holds_last : run_bit s g.upper (g.bits - 1) ≡ 0
      holds_last = elim (run_cases s up last) [
        | inl e ↦ e
        | inr e ↦
            absurd (omega (arith, (flat_at bits).behind (before_end ∙ e), parts.1, counted_bits a.ones_are, sum_is))
      ]

      pub holds_tail : Tail s g.upper (g.bits - 1)
      unfolding words_for
      holds_tail i l h = elim (dec_lt i bits) [
        | yes u ↦
            let e : g.bits - 1 ≡ i = omega arith in
            rw e at holds_last
        | no u ↦ a.upper_spare i (omega arith) (omega (arith, end_is))
      ]

-- ---- from word to word

-- k words with i ones are passed, q is the number of the next pointer, no two ones are neighbours, and c is the last bit
pub record Along (s : List ℕ) (g : Shape) (k i q c : ℕ) : Type 0 where
  pub few : i ≤ g.n
  pub counted : ones_below s g.upper (64 * k) ≡ i
  pub pointed : Pointed s g (64 * k) i q
  pub apart : Spaced s g.upper (64 * k)
  pub carry : c ≡ bit_before s g.upper (64 * k)

pub along_start : (s : List ℕ) (g : Shape) → Laid s g → Along s g 0 0 1 0
unfolding bit_before
along_start s g d = record {
  few = omega arith;
  counted = below_none s g.upper;
  pointed = pointed_start s g d;
  apart = λ i h. absurd (omega arith);
  carry = refl;
}

module _ (s : List ℕ) (g : Shape) (d : Laid s g) (k i q c : ℕ) (a : Along s g k i q c) (x : ℕ)
    (inside : k < words_for g.bits) (is : x ≡ run_word s g.upper k) (fits : x < 2 ^ 64) where
  pub along_ready : Ready s g k i q x
  along_ready = record {
    laid = d;
    few = a.few;
    counted = a.counted;
    pointed = a.pointed;
    inside = inside;
    word_is = is;
  }

  small : c < 2
  small = elim (before_cases s g.upper (64 * k)) [
    | inl e ↦ omega (arith, a.carry)
    | inr e ↦ omega (arith, a.carry)
  ]

  -- two neighbours, in the word or with the last bit before it
  pub along_refuse : (bit_and x (bit_or ((x * 2 ^ 1) % 2 ^ 64) c) ≡ 0 → ⊥) → Spaced s g.upper (64 * words_for g.bits) → ⊥
  along_refuse n f =
      near_some s g.upper k x c is fits a.carry small (pos (bit_and x (bit_or ((x * 2 ^ 1) % 2 ^ 64) c)) n)
      (λ j h. f j (omega arith))
    where
      pos : (y : ℕ) → (y ≡ 0 → ⊥) → 0 < y
      pos zero z = absurd (z refl)
      pos (suc y) z = omega arith

  pub along_next : bit_and x (bit_or ((x * 2 ^ 1) % 2 ^ 64) c) ≡ 0 → (r : ℕ) → i + ones x ≤ g.n
      → Pointed s g (64 * (k + 1)) (i + ones x) r → Along s g (k + 1) (i + ones x) r (x / 2 ^ 63)
  along_next n r l p = record {
    few = l;
    counted = next_word s g.upper k x is fits ∙ ap (λ (y : ℕ). y + ones x) a.counted;
    pointed = p;
    apart = near_none s g.upper k x c is fits a.carry small n a.apart;
    carry = next_carry s g.upper k x c is fits a.carry small;
  }

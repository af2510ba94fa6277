-- Laws of the bits that laying a low part gives: they stay in hand, or fill a word.
use mathlib.Core.Path.{◌≡◌, sym, ap, ◌∙◌}
use mathlib.Core.List.{List}
use Prim.Native.Nat.{ℕ, ◌+◌, ◌-◌, ◌*◌, ◌/◌, ◌%◌, ◌^◌, ◌≤◌, ◌<◌}
use native.Mathlib.Nat.{mod-lt, div-one}
use native.Mathlib.Omega.{arith}
use lib.Bits.{bit_and, bit_or}
use lib.ListN.{drop}
use lib.Pow.{pow_pos, high, low}
use Rattle.rules.specs.InPlace.{from, with_ones}
use Rattle.laws.proofs.BitLaws.{masked, placed_one}
use Rattle.filllaws.specs.declared.Lows.{Lows}
use Rattle.addlaws.specs.Adding.{LowOne}
use Rattle.addlaws.proofs.SetLaws.{ones_none, ones_low, from_same}

module _ (w : ℕ) (a : Lows) (x : ℕ) (narrow : w ≤ 32) (short : a.have < 64) (held : a.acc < 2 ^ a.have) where
  abbrev v : ℕ
  v = a.acc + x % 2 ^ w * 2 ^ a.have

  -- the low bits of x, as they are masked
  abbrev lowest : ℕ
  lowest = bit_and x ((1 * 2 ^ w) % 2 ^ 64 - 1)

  -- less than a word
  module _ (l : a.have + w < 64) where
    low_or : bit_or a.acc ((lowest * 2 ^ a.have) % 2 ^ 64) ≡ v
    low_or = rw (masked x w (omega arith))
        (placed_one a.acc (x % 2 ^ w) a.have w short held (mod-lt x (pow_pos w)) (omega arith) ∙ omega arith)

    pub low_near : (d : List ℕ) → LowOne w a x
        (record { acc = bit_or a.acc ((lowest * 2 ^ a.have) % 2 ^ 64); have = a.have + w; words = a.words }) d d
    low_near d =
        let m : (a.have + w) / 64 ≡ 0 = omega arith in
        record {
          is = sym (ap (λ (k : ℕ). from (8 * a.words) (with_ones k v) d) m
              ∙ from_same (8 * a.words) (with_ones 0 v) d (ones_none v (drop (8 * a.words) d)));
          rest = rw m (low_or ∙ sym (div-one v));
          have = omega arith;
          words = omega arith;
        }

  -- a word, and what goes on into the next
  pub low_far : (hi lo : ℕ) (d e : List ℕ) → hi * 2 ^ 64 + lo ≡ lowest * 2 ^ a.have + a.acc → lo < 2 ^ 64
      → 64 ≤ a.have + w → e ≡ from (8 * a.words) (with_ones 1 lo) d
      → LowOne w a x (record { acc = hi; have = a.have + w - 64; words = a.words + 1 }) d e
  low_far hi lo d e bits small l q =
      let m : (a.have + w) / 64 ≡ 1 = omega arith in
      let laid : hi * 2 ^ 64 + lo ≡ v = bits ∙ rw (masked x w (omega arith)) (omega arith) in
      let p : lo ≡ v % 2 ^ 64 = rw (← laid) (sym (low hi 64 small)) in
      let r : hi ≡ v / 2 ^ 64 = rw (← laid) (sym (high hi 64 small)) in
      record {
        is = q ∙ ap (λ (f : List ℕ → List ℕ). from (8 * a.words) f d) (ones_low v lo p)
            ∙ ap (λ (k : ℕ). from (8 * a.words) (with_ones k v) d) (sym m);
        rest = rw m r;
        have = omega arith;
        words = omega arith;
      }

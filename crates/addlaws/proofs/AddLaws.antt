-- Laws of the two runs of a block that elements are laid into in place: none, one more, and what is in hand at the end.
use mathlib.Core.Path.{◌≡◌, refl, sym, ap, ◌∙◌, subst}
use mathlib.Core.List.{List}
use Prim.Native.Nat.{ℕ, zero, suc, ◌+◌, ◌-◌, ◌*◌, ◌/◌, ◌%◌, ◌^◌, ◌≤◌, ◌<◌}
use native.Mathlib.Nat.{add_comm, add-mul, zero-add, zero-div, one-mul, mod-lt, div-eq_of_lt, lt_of_lt_of_le}
use native.Mathlib.Decide.{dec_lt}
use native.Mathlib.Omega.{arith}
use lib.Arith.{digits_lt}
use lib.Bits.{bit_or}
use lib.ListN.{length}
use lib.Pow.{shr_lt, pow_pos, pow_mono, pow-add}
use Rattle.rules.specs.Bytes.{Bytes}
use Rattle.rules.specs.InPlace.{from, with_ones}
use Rattle.laws.proofs.BitLaws.{one_shl, placed_one}
use Rattle.filllaws.specs.declared.Lows.{Lows}
use Rattle.addlaws.specs.declared.Highs.{Highs}
use Rattle.addlaws.specs.Adding.{used, Set, LowOne, LowsLaid, HighsLaid}
use Rattle.addlaws.proofs.SetLaws.{set_none, set_more, set_add, set_skip, set_zero}

-- ---- what is in hand

pub used_none : used 0 ≡ 0
unfolding used
used_none = refl

pub used_some : (b : ℕ) → 0 < b → used b ≡ 1
unfolding used
used_some zero h = absurd (omega arith)
used_some (suc b) h = refl

used_le : (b : ℕ) → used b ≤ 1
unfolding used
used_le zero = omega arith
used_le (suc b) = omega arith

-- one word takes all bits of one
used_rest : (r : ℕ) → r < 2 ^ 64 → r / 2 ^ (64 * used r) ≡ 0
used_rest r h =
    elim (dec_lt 0 r) [
      | yes y ↦
          let e : 64 * used r ≡ 64 = omega (arith, used_some r y) in
          rw e (div-eq_of_lt h)
      | no n ↦
          let e : r ≡ 0 = omega arith in
          rw e (zero-div (2 ^ (64 * used 0)))
    ]

module _ (v k r : ℕ) (d e : List ℕ) (a : Set v k r d e) (small : r < 2 ^ 64) where
  set_flushed : (f : List ℕ) → 8 * (k + used r) ≤ length d → f ≡ from (8 * k) (with_ones (used r) r) e
      → Set v (k + used r) 0 d f
  set_flushed f h q =
      subst (λ (x : ℕ). Set v (k + used r) x d f) (used_rest r small) (set_more v k r d e a (used r) f h q)

  pub set_last : (m : ℕ) (f : List ℕ) → Bytes d → k + used r ≤ m → 8 * m ≤ length d
      → f ≡ from (8 * k) (with_ones (used r) r) e → f ≡ with_ones m v d
  set_last m f b l h q =
      let j : ℕ = m - (k + used r) in
      let n : k + used r + j ≡ m = omega arith in
      let s = set_flushed f (omega arith) q in
      (set_skip v (k + used r) 0 d f s j b refl (omega arith)).is ∙ ap (λ (x : ℕ). with_ones x v d) n

-- ---- the lower run

pub lows_none : (w i : ℕ) (d : List ℕ) → Bytes d → 8 * (i * w / 64) ≤ length d
    → LowsLaid w i 0 (record { acc = 0; have = i * w % 64; words = i * w / 64 }) d d
lows_none w i d b h = record {
  set = set_zero (i * w / 64) d b h;
  place = omega arith;
  short = omega arith;
  fits = pow_pos (i * w);
}

module _ (w i v : ℕ) (a : Lows) (d e : List ℕ) (l : LowsLaid w i v a d e) where
  -- what is in hand has as many bits as are counted
  pub lows_lt : a.acc < 2 ^ a.have
  lows_lt = rw l.set.rest
      (shr_lt a.have (64 * a.words) (rw (add_comm a.have (64 * a.words), l.place) l.fits))

  pub lows_small : a.acc < 2 ^ 64
  lows_small =
      let h : a.have ≤ 64 = omega (arith, l.short) in
      lt_of_lt_of_le lows_lt (pow_mono h)

  pub lows_more : (x : ℕ) (r : Lows) (f : List ℕ) → 8 * (a.words + (a.have + w) / 64) ≤ length d → LowOne w a x r e f
      → LowsLaid w (i + 1) (v + x % 2 ^ w * 2 ^ (i * w)) r d f
  lows_more x r f h p = record {
    set =
        let s = rw l.place at (set_add v a.words a.acc d e l.set (x % 2 ^ w) a.have) in
        let t = set_more (v + x % 2 ^ w * 2 ^ (i * w)) a.words (a.acc + x % 2 ^ w * 2 ^ a.have) d e s
        ((a.have + w) / 64) f h p.is in
        subst (λ (k : ℕ). Set (v + x % 2 ^ w * 2 ^ (i * w)) k r.acc d f) (sym p.words)
        (subst (λ (q : ℕ). Set (v + x % 2 ^ w * 2 ^ (i * w)) (a.words + (a.have + w) / 64) q d f) (sym p.rest) t);
    place = rw more (omega (arith, p.words, p.have, l.place));
    short = omega (arith, p.have);
    fits =
        let q : x % 2 ^ w * 2 ^ (i * w) + v < 2 ^ w * 2 ^ (i * w) =
        digits_lt {q = x % 2 ^ w} {m = 2 ^ w} {r = v} {c = 2 ^ (i * w)} (mod-lt x (pow_pos w)) l.fits in
        rw (more, add_comm (i * w) w, add_comm v (x % 2 ^ w * 2 ^ (i * w))) (rw (← pow-add) at q);
  }
    where
      more : (i + 1) * w ≡ i * w + w
      more = add-mul i 1 w ∙ ap (λ (k : ℕ). i * w + k) (one-mul w)

  -- the words that are set once w bits more are laid
  pub lows_words : a.words + (a.have + w) / 64 ≡ (i + 1) * w / 64
  lows_words =
      let m : (i + 1) * w ≡ i * w + w = add-mul i 1 w ∙ ap (λ (k : ℕ). i * w + k) (one-mul w) in
      omega (arith, l.place, m)

  -- the word in hand, where there is any, is one of the m words of the run
  pub lows_in : (m : ℕ) → i * w ≤ 64 * m → a.words + used a.acc ≤ m
  lows_in m h =
      elim (dec_lt 0 a.acc) [
        | no n ↦
            let z : a.acc ≡ 0 = omega arith in
            omega (arith, l.place, ap used z, used_none)
        | yes y ↦ omega (arith, l.place, used_some a.acc y, some y)
      ]
    where
      some : 0 < a.acc → 0 < a.have
      some y =
          elim (dec_lt 0 a.have) [
            | yes p ↦ p
            | no n ↦
                let z : a.have ≡ 0 = omega arith in
                absurd (omega (arith, rw z at lows_lt))
          ]

-- ---- the upper run

twice_le : (j : ℕ) → j < 64 → 2 ^ j + 2 ^ j ≤ 2 ^ 64
twice_le j h =
    let m : 2 ^ (j + 1) ≤ 2 ^ 64 = pow_mono {i = j + 1} {j = 64} (omega arith) in
    let e : 2 ^ (j + 1) ≡ 2 ^ j * 2 ^ 1 = pow-add 2 j 1 in
    omega (arith, m, e)

pub highs_none : (d : List ℕ) → HighsLaid 0 0 (record { acc = 0; word = 0 }) d d
highs_none d = record {
  set = set_none d;
  place = omega arith;
  one = omega arith;
  top = omega arith;
  room = omega (arith, used_none);
}

module _ (q v : ℕ) (a : Highs) (d e : List ℕ) (l : HighsLaid q v a d e) (p : ℕ) (above : q ≤ p)
    (long : 8 * (p / 64) + 8 ≤ length d) where
  grown : v + 2 ^ p < 2 ^ (p + 1)
  grown =
      let h : v < 2 ^ p = lt_of_lt_of_le l.top (pow_mono above) in
      rw (pow-add 2 p 1) (omega (arith, h))

  placed_at : 64 * (p / 64) + p % 64 ≡ p
  placed_at = omega arith

  one_more : (k r : ℕ) (f : List ℕ) → Set v k r d f → k ≡ p / 64 → Set (v + 2 ^ p) k (r + 2 ^ (p % 64)) d f
  one_more k r f s n =
      let g : 64 * k + p % 64 ≡ p = omega arith in
      rw (one-mul (2 ^ p), one-mul (2 ^ (p % 64))) at (rw g at (set_add v k r d f s 1 (p % 64)))

  -- a one in the word in hand
  module _ (same : p / 64 ≡ a.word) where
    highs_below : a.acc < 2 ^ (p % 64)
    highs_below =
        let g : q ≤ p % 64 + 64 * a.word = omega arith in
        rw l.set.rest (shr_lt (p % 64) (64 * a.word) (lt_of_lt_of_le l.top (pow_mono g)))

    -- set in hand
    highs_or : bit_or a.acc ((1 * 2 ^ (p % 64)) % 2 ^ 64) ≡ a.acc + 2 ^ (p % 64)
    highs_or = placed_one a.acc 1 (p % 64) 1 (omega arith) highs_below (omega arith) (omega arith) ∙ omega arith

    pub highs_near : HighsLaid (p + 1) (v + 2 ^ p)
        (record { acc = bit_or a.acc ((1 * 2 ^ (p % 64)) % 2 ^ 64); word = p / 64 }) d e
    highs_near = rw highs_or (record {
      set = subst (λ (k : ℕ). Set (v + 2 ^ p) k (a.acc + 2 ^ (p % 64)) d e) (sym same)
          (one_more a.word a.acc e l.set (sym same));
      place = omega arith;
      one =
          let h = twice_le (p % 64) (omega arith) in
          omega (arith, highs_below, h);
      top = grown;
      room = let u = used_le (a.acc + 2 ^ (p % 64)) in omega (arith, u, long);
    })

  -- and one in a word behind it
  pub highs_far : (f : List ℕ) → (p / 64 ≡ a.word → ⊥) → Bytes d
      → f ≡ from (8 * a.word) (with_ones (used a.acc) a.acc) e
      → HighsLaid (p + 1) (v + 2 ^ p) (record { acc = (1 * 2 ^ (p % 64)) % 2 ^ 64; word = p / 64 }) d f
  highs_far f other b t =
      let u = used_le a.acc in
      let k : ℕ = a.word + used a.acc in
      let j : ℕ = p / 64 - k in
      let n : k + j ≡ p / 64 = omega (arith, l.place) in
      let s = set_flushed v a.word a.acc d e l.set l.one f (omega (arith, l.place)) t in
      let r = set_skip v k 0 d f s j b refl (omega arith) in
      rw (one_shl (p % 64) (omega arith)) (record {
        set = rw (zero-add (2 ^ (p % 64))) at (one_more (p / 64) 0 f (subst (λ (x : ℕ). Set v x 0 d f) n r) refl);
        place = omega arith;
        one =
            let h = twice_le (p % 64) (omega arith) in
            omega (arith, pow_pos (p % 64), h);
        top = grown;
        room = let u = used_le (2 ^ (p % 64)) in omega (arith, u, long);
      })

-- the word in hand, where there is any, is one of the m words of the run
pub highs_in : (q v : ℕ) (a : Highs) (d e : List ℕ) → HighsLaid q v a d e → (m : ℕ) → q ≤ 64 * m
    → a.word + used a.acc ≤ m
highs_in q v a d e l m h =
    elim (dec_lt 0 a.acc) [
      | no n ↦
          let z : a.acc ≡ 0 = omega arith in
          omega (arith, l.place, ap used z, used_none)
      | yes y ↦
          elim (dec_lt (64 * a.word) q) [
            | yes p ↦ omega (arith, used_some a.acc y)
            | no p ↦
                let m : 2 ^ q ≤ 2 ^ (64 * a.word) = pow_mono {i = q} {j = 64 * a.word} (omega arith) in
                let t : v < 2 ^ (64 * a.word) = lt_of_lt_of_le l.top m in
                absurd (omega (arith, l.set.rest ∙ div-eq_of_lt t))
          ]
    ]

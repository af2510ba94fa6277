-- Laws of the elements of one word, from each one to the next:
-- what is left of the word is the word with its low bits cleared.
use mathlib.Core.Bool.{Bool, true, false, ◌&&◌, true≢false, false≢true}
use mathlib.Core.Logic.{◌⊎◌, inl, inr}
use mathlib.Core.Path.{◌≡◌, refl, sym, ap, ap₂, ◌∙◌}
use mathlib.Core.List.{List}
use Prim.Native.Nat.{ℕ, suc, ◌+◌, ◌-◌, ◌*◌, ◌/◌, ◌^◌, ◌≤◌, ◌<◌}
use native.Mathlib.Nat.{div-mul-le_self, div-one, mul-one, lt_of_lt_of_le}
use native.Mathlib.Decide.{dec_lt}
use native.Mathlib.Omega.{arith}
use borrow.Author.Tests.{lt-ltb, le-ltb}
use lib.Bits.{bit_and}
use lib.Count.{ones, count_trailing_zeros}
use lib.Dec.{leb, ltb}
use lib.Pow.{pow_pos, pow_mono}
use Rattle.rules.specs.Bytes.{be_at}
use Rattle.rules.specs.Runs.{bit, run_word, run_bit, field, words_for}
use Rattle.rules.specs.Counts.{ones_below}
use Rattle.laws.proofs.BitLaws.{bit_cleared, bit_kept, bit_beyond, shr_kept}
use Rattle.laws.proofs.BitLaws.{tz_below, tz_set, tz_lt, clear_lowest, one_zero}
use Rattle.laws.proofs.ByteLaws.{be_at_lt}
use Rattle.laws.proofs.CountLaws.{below_suc, ones_below_le, next_word}
use Rattle.laws.proofs.RunLaws.{run_bit_lem, field_lt, ones_mono}
use Rattle.shape.specs.declared.Shape.{Shape}
use Rattle.checklaws.specs.declared.Low.{Low}
use Rattle.checklaws.specs.Check.{Laid, Holds, Climbed, pair_of, last_of, Held, Read, next_low}
use Rattle.checklaws.proofs.LowLaws.{held_part, held_next}
use Rattle.checklaws.proofs.PairLaws.{pair_is, last_one, last_ltb}
use Rattle.checklaws.proofs.ClimbLaws.{element_at, climbed_zeros, climbed_one, climbed_refuse}

-- x is word k
pub record Word (s : List ℕ) (g : Shape) (k x : ℕ) : Type 0 where
  pub laid : Laid s g
  pub inside : k < words_for g.bits
  pub is : x ≡ run_word s g.upper k
  pub fits : x < 2 ^ 64
  pub total : ones_below s g.upper (64 * (k + 1)) ≤ g.n

-- of the elements from number i₀ up to number i as many are above the one before as were counted, and b says whether
-- all are
pub record Risen (i₀ rises i : ℕ) (b : Bool) : Type 0 where
  pub most : i₀ + rises ≤ i
  pub all : b ≡ true → i₀ + rises ≡ i
  pub less : b ≡ false → i₀ + rises < i

pub risen_start : (i : ℕ) → Risen i 0 i true
risen_start i = record { most = omega arith; all = λ _. omega arith; less = λ e. absurd (true≢false e) }

risen_more : (i₀ rises i : ℕ) (b : Bool) → Risen i₀ rises i b → Risen i₀ (rises + 1) (i + 1) (b && true)
risen_more i₀ rises i true r = record {
  most = omega (arith, r.most);
  all = λ _. omega (arith, r.all refl);
  less = λ e. absurd (true≢false e);
}
risen_more i₀ rises i false r = record {
  most = omega (arith, r.most);
  all = λ e. absurd (false≢true e);
  less = λ _. omega (arith, r.less refl);
}

risen_not : (i₀ rises i : ℕ) (b : Bool) → Risen i₀ rises i b → Risen i₀ rises (i + 1) (b && false)
risen_not i₀ rises i b r = rw (and_false b) (record {
  most = omega (arith, r.most);
  all = λ e. absurd (false≢true e);
  less = λ _. omega (arith, r.most);
})
  where
    and_false : (b : Bool) → b && false ≡ false
    and_false true = refl
    and_false false = refl

-- the elements in the d low bits of x are passed, and the ones above are left in `rest`
pub record Peeled (s : List ℕ) (g : Shape) (k x i₀ rest lift last rises : ℕ) (l : Low) : Type 0 where
  pub d : ℕ
  pub within : d ≤ 64
  rest_is : rest ≡ x / 2 ^ d * 2 ^ d
  pub i : ℕ
  pub lifted : lift + i ≡ 64 * k + 64
  pub bound : ℕ
  pub rising : Bool
  pub climbed : Climbed s g (64 * k + d) i bound rising
  pub last_is : last ≡ last_of g.w bound
  pub risen : Risen i₀ rises i rising
  pub held : Held s g i l

-- and there are some
pub record Turn (s : List ℕ) (g : Shape) (k x i₀ rest lift last rises : ℕ) (l : Low) : Type 0 where
  pub word : Word s g k x
  pub peeled : Peeled s g k x i₀ rest lift last rises l
  pub some : 0 < rest

pub peeled_start : (s : List ℕ) (g : Shape) (k x i m last : ℕ) (l : Low) → Climbed s g (64 * k) i m true
    → last ≡ last_of g.w m → Held s g i l → i ≤ 64 * k → Peeled s g k x i x (64 * k + 64 - i) last 0 l
peeled_start s g k x i m last l c e h u =
    let z : 64 * k ≡ 64 * k + 0 = omega arith in
    record {
      d = 0;
      within = omega arith;
      rest_is = sym (rw (div-one, mul-one));
      i = i;
      lifted = omega arith;
      bound = m;
      rising = true;
      climbed = rw z at c;
      last_is = e;
      risen = risen_start i;
      held = h;
    }

module _ {s : List ℕ} {g : Shape} {k x i₀ rest lift last rises : ℕ} {l : Low} (o : Word s g k x)
    (p : Peeled s g k x i₀ rest lift last rises l) where
  bit_at : (j : ℕ) → 64 * k ≤ j → j < 64 * k + 64 → run_bit s g.upper j ≡ bit x (j - 64 * k)
  bit_at j a b =
      let e : 64 * k + (j - 64 * k) ≡ j = omega arith in
      rw (e, ← o.is) at (run_bit_lem s g.upper k (j - 64 * k) (omega arith))

  -- above d the bits of x are those of the rest
  kept : (j : ℕ) → p.d ≤ j → bit x j ≡ bit rest j
  kept j h = sym (ap (λ (y : ℕ). bit y j) p.rest_is ∙ bit_kept x p.d j h)

  -- ---- none is left

  pub peeled_end : rest ≡ 0 → Climbed s g (64 * (k + 1)) p.i p.bound p.rising
  peeled_end z =
      climbed_zeros s g (64 * k + p.d) p.i p.bound p.rising p.climbed (64 * (k + 1)) (omega (arith, p.within))
      (λ j a b.
      bit_at j (omega arith) (omega arith)
      ∙ kept (j - 64 * k) (omega arith)
      ∙ ap (λ (y : ℕ). bit y (j - 64 * k)) z
      ∙ bit_beyond 0 (j - 64 * k) (pow_pos (j - 64 * k)))

  -- then what was counted tells whether the elements climb
  module _ (z : rest ≡ 0) where
    pub peeled_read : ones_below s g.upper (64 * k) ≡ i₀ → i₀ + rises ≡ 64 * k + 64 - lift → (q : ℕ)
        → Read s g k (i₀ + ones x) (record { i = 64 * k + 64 - lift; next = q; last = last; low = l })
    peeled_read n h q =
        let e : p.i ≡ 64 * k + 64 - lift = omega (arith, p.lifted) in
        let c = peeled_end z in
        let r : p.rising ≡ true = told p.rising (λ f. omega (arith, p.risen.less f, e)) in
        record {
          all = omega (arith, c.counted, next_word s g.upper k x o.is o.fits, n, e);
          bound = p.bound;
          climbed = rw (e, r) at c;
          last_is = p.last_is;
          held = rw e at p.held;
        }
      where
        told : (b : Bool) → (b ≡ false → ⊥) → b ≡ true
        told true h = refl
        told false h = absurd (h refl)

    pub peeled_refuse : (i₀ + rises ≡ 64 * k + 64 - lift → ⊥) → Holds s g → ⊥
    peeled_refuse h =
        let e : p.i ≡ 64 * k + 64 - lift = omega (arith, p.lifted) in
        let r : p.rising ≡ false = told_not p.rising (λ f. h (p.risen.all f ∙ e)) in
        climbed_refuse s g (64 * (k + 1)) p.i p.bound (rw r at (peeled_end z)) (omega (arith, o.inside))
      where
        told_not : (b : Bool) → (b ≡ true → ⊥) → b ≡ false
        told_not true h = absurd (h refl)
        told_not false h = refl

-- ---- the lowest one that is left

module _ {s : List ℕ} {g : Shape} {k x i₀ rest lift last rises : ℕ} {l : Low}
    (a : Turn s g k x i₀ rest lift last rises l) where
  abbrev t : ℕ
  t = count_trailing_zeros 64 rest

  abbrev pub rank : ℕ
  rank = a.peeled.i

  pub turn_lt : count_trailing_zeros 64 rest < 64
  turn_lt =
      tz_lt 64 rest a.some (omega (arith, a.peeled.rest_is, div-mul-le_self x (2 ^ a.peeled.d), a.word.fits))

  turn_from : a.peeled.d ≤ t
  turn_from =
      elim (dec_lt t a.peeled.d) [
        | yes h ↦ absurd (one_zero (tz_set 64 rest turn_lt)
            (ap (λ (y : ℕ). bit y t) a.peeled.rest_is ∙ bit_cleared (x / 2 ^ a.peeled.d) a.peeled.d t h))
        | no h ↦ omega arith
      ]

  zeros : (j : ℕ) → 64 * k + a.peeled.d ≤ j → j < 64 * k + t → run_bit s g.upper j ≡ 0
  zeros j h u =
      bit_at a.word a.peeled j (omega arith) (omega (arith, turn_lt))
      ∙ kept a.word a.peeled (j - 64 * k) (omega arith) ∙ tz_below 64 rest (j - 64 * k) (omega arith)

  one : run_bit s g.upper (64 * k + t) ≡ 1
  one =
      let e : 64 * k + t - 64 * k ≡ t = omega arith in
      rw e at (bit_at a.word a.peeled (64 * k + t) (omega arith) (omega (arith, turn_lt)))
      ∙ kept a.word a.peeled t turn_from ∙ tz_set 64 rest turn_lt

  turn_below : rank ≤ 64 * k + t
  turn_below =
      omega (arith, ones_below_le s g.upper (64 * k + a.peeled.d), a.peeled.climbed.counted, turn_from)

  turn_total : rank + 1 ≤ ones_below s g.upper (64 * (k + 1))
  turn_total =
      let q : ℕ = 64 * k + t in
      let c = (climbed_zeros s g (64 * k + a.peeled.d) rank a.peeled.bound a.peeled.rising a.peeled.climbed q
      (omega (arith, turn_from)) zeros).counted in
      let e : suc q + (63 - t) ≡ 64 * (k + 1) = omega (arith, turn_lt) in
      omega (arith, rw e at (ones_mono s g.upper (suc q) (63 - t)), below_suc s g.upper q, one, c)

  pub turn_more : rank < g.n
  turn_more = omega (arith, turn_total, a.word.total)

  pub turn_lift : 1 ≤ lift
  turn_lift = omega (arith, turn_total, ones_below_le s g.upper (64 * (k + 1)), a.peeled.lifted)

  pub turn_high : lift + count_trailing_zeros 64 rest < 2 ^ 27
  unfolding words_for
  turn_high = omega (arith, turn_lt, a.peeled.lifted, a.word.inside, a.word.laid.few)

  pub turn_rises : i₀ + rises ≤ 2 ^ 26
  turn_rises = omega (arith, a.peeled.risen.most, turn_more, a.word.laid.most, a.word.laid.few)

  fits : be_at 8 s l.at < 2 ^ 64
  fits = be_at_lt 8 s l.at a.word.laid.bytes

  narrow : g.w ≤ 64
  narrow = omega (arith, a.word.laid.narrow)

  -- its low part, and its element as a pair
  module _ (part : ℕ) (f : part ≡ (next_low s g.w l).part) where
    part_is : part ≡ field s g.lower (rank * g.w) g.w
    part_is = f ∙ held_part s g rank l a.peeled.held fits narrow

    pub turn_low : part < 2 ^ 32
    turn_low =
        let b = lt_of_lt_of_le (field_lt s g.lower (rank * g.w) g.w) (pow_mono a.word.laid.narrow) in
        omega (arith, part_is, b)

    pub turn_pair : (lift + count_trailing_zeros 64 rest) * 2 ^ 32 + part
        ≡ pair_of g.w (element_at s g (64 * k + count_trailing_zeros 64 rest) rank)
    turn_pair =
        let h : lift + t ≡ 64 * k + t - rank + 64 = omega (arith, turn_below, a.peeled.lifted) in
        rw (h, part_is) (sym (pair_is g.w (64 * k + t - rank) _ (field_lt s g.lower (rank * g.w) g.w)))

  module _ (v : ℕ) (e : v ≡ pair_of g.w (element_at s g (64 * k + count_trailing_zeros 64 rest) rank)) where
    tested : ltb last v ≡ leb a.peeled.bound (element_at s g (64 * k + t) rank)
    tested =
        ap₂ ltb a.peeled.last_is e
        ∙ last_ltb g.w (omega (arith, a.word.laid.narrow)) a.peeled.bound (element_at s g (64 * k + t) rank)

    climbed_more : Climbed s g (64 * k + suc t) (rank + 1) (element_at s g (64 * k + t) rank + 1)
        (a.peeled.rising && ltb last v)
    climbed_more =
        let n : 64 * k + t + 1 ≡ 64 * k + suc t = omega arith in
        rw tested (rw n at (climbed_one s g (64 * k + a.peeled.d) rank a.peeled.bound a.peeled.rising
        a.peeled.climbed (64 * k + t) (omega (arith, turn_from)) zeros one))

    -- one more is counted where it is above the last
    counted_risen : (c : ℕ) → ((last < v) × (c ≡ rises + 1)) ⊎ ((v ≤ last) × (c ≡ rises))
        → Risen i₀ c (rank + 1) (a.peeled.rising && ltb last v)
    counted_risen c (inl h) = rw (h.1, lt-ltb last v h.0) (risen_more i₀ rises rank a.peeled.rising a.peeled.risen)
    counted_risen c (inr h) =
        rw (h.1, le-ltb last v h.0)
        (risen_not i₀ rises rank a.peeled.rising a.peeled.risen)

    pub turn_next : (r : Low) → r ≡ next_low s g.w l
        → (c : ℕ) → ((last < v) × (c ≡ rises + 1)) ⊎ ((v ≤ last) × (c ≡ rises))
        → Peeled s g k x i₀ (bit_and rest (rest - 1)) (lift - 1) v c r
    turn_next r q c h = record {
      d = suc t;
      within = turn_lt;
      rest_is =
          clear_lowest rest t (λ j u. tz_below 64 rest j u) (tz_set 64 rest turn_lt)
          ∙ ap (λ (y : ℕ). y / 2 ^ suc t * 2 ^ suc t) a.peeled.rest_is
          ∙ ap (λ (y : ℕ). y * 2 ^ suc t) (shr_kept x a.peeled.d (suc t) (omega (arith, turn_from)));
      i = rank + 1;
      lifted = omega (arith, a.peeled.lifted, turn_lift);
      bound = element_at s g (64 * k + t) rank + 1;
      rising = a.peeled.rising && ltb last v;
      climbed = climbed_more;
      last_is = e ∙ last_one g.w (element_at s g (64 * k + t) rank);
      risen = counted_risen c h;
      held = rw q (held_next s g rank l a.peeled.held fits narrow);
    }

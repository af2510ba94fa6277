-- Laws of the two runs of a block that is being written:
-- nothing laid, one element more, and bytes elsewhere that change.
use mathlib.Core.Path.{◌≡◌, refl, sym, ap, ◌∙◌, subst}
use mathlib.Core.Logic.{inl}
use mathlib.Core.List.{List}
use Prim.Native.Nat.{ℕ, suc, ◌+◌, ◌-◌, ◌*◌, ◌/◌, ◌%◌, ◌^◌, ◌≤◌, ◌<◌}
use native.Mathlib.Nat.{mod-lt, mod-eq_of_lt, add_comm, add-mul, one-mul, lt_of_lt_of_le}
use native.Mathlib.Decide.{dec_lt}
use native.Mathlib.Omega.{arith}
use lib.Arith.{digits_lt}
use lib.Count.{ones, ones_cat}
use lib.Pow.{pow-add, pow_pos, pow_mono, shr_lt}
use Rattle.rules.specs.Bytes.{be_at}
use Rattle.laws.proofs.BitLaws.{drop_high}
use Rattle.laws.proofs.ByteLaws.{Alike, be_at_same}
use Rattle.listlaws.specs.Sound.{ones_to, After}
use Rattle.listlaws.proofs.AfterLaws.{ones_steps, after_le, after_agree}
use Rattle.filllaws.specs.declared.Lows.{Lows}
use Rattle.filllaws.specs.declared.Ups.{Ups}
use Rattle.filllaws.specs.Filling.{Stored, Lower, Held, Lowered, Raised}
use Rattle.filllaws.proofs.StoreLaws.{stored_apart, held_none, held_alike, held_add, held_flushed}

-- ---- the lower run

pub lowered_none : (s : List ℕ) (at w : ℕ) → Lowered s at w 0 0 (record { acc = 0; have = 0; words = 0 })
lowered_none s at w = record {
  held = held_none s at;
  place = sym (omega arith);
  short = omega arith;
  fits = pow_pos (0 * w);
}

module _ (s : List ℕ) (at w i v : ℕ) (a : Lows) (l : Lowered s at w i v a) where
  pub lowered_alike : (t : List ℕ) → Alike t s at (at + 8 * a.words) → Lowered t at w i v a
  lowered_alike t e = record {
    held = held_alike s at v a.words a.acc l.held t e;
    place = l.place;
    short = l.short;
    fits = l.fits;
  }

  -- what is in hand has as many bits as are counted
  pub lowered_lt : a.acc < 2 ^ a.have
  lowered_lt = rw l.held.rest
      (shr_lt a.have (64 * a.words) (rw (add_comm a.have (64 * a.words), l.place) l.fits))

  pub lowered_more : (x : ℕ) (r : Lows) (t : List ℕ) → Lower w at a x r s t
      → Lowered t at w (i + 1) (v + x % 2 ^ w * 2 ^ (i * w)) r
  lowered_more x r t p = record {
    held =
        let h = rw l.place at (held_add s at v a.words a.acc l.held (x % 2 ^ w) a.have) in
        subst (λ k. Held t at (v + x % 2 ^ w * 2 ^ (i * w)) k r.acc) (sym p.words)
        (held_flushed s at (v + x % 2 ^ w * 2 ^ (i * w)) a.words
        (a.acc + x % 2 ^ w * 2 ^ a.have) h ((a.have + w) / 64) r.acc t p.flushed);
    place = rw more (omega (arith, p.words, p.have, l.place));
    short = omega (arith, p.have);
    fits =
        let d : x % 2 ^ w * 2 ^ (i * w) + v < 2 ^ w * 2 ^ (i * w) =
        digits_lt {q = x % 2 ^ w} {m = 2 ^ w} {r = v} {c = 2 ^ (i * w)} (mod-lt x (pow_pos w)) l.fits in
        rw (more, add_comm (i * w) w, add_comm v (x % 2 ^ w * 2 ^ (i * w))) (rw (← pow-add) at d);
  }
    where
      more : (i + 1) * w ≡ i * w + w
      more = add-mul i 1 w ∙ ap (λ (k : ℕ). i * w + k) (one-mul w)

-- ---- the upper run

-- a one above all others changes no count below it
after_more : (v c k q : ℕ) → q ≤ c → After (ones_to v) k q → After (ones_to (v + 2 ^ c)) k q
after_more v c k q h a = after_agree (ones_to v) (ones_to (v + 2 ^ c)) k q same a
  where
    same : (p : ℕ) → p ≤ q → ones_to v p ≡ ones_to (v + 2 ^ c) p
    same p l =
        let e : c ≡ c - p + p = omega arith in
        ap ones (sym (rw (add_comm v (2 ^ c), ← one-mul (2 ^ c), e) (drop_high 1 v (c - p) p)))

one_of : ones 1 ≡ 1
unfolding ones
one_of = refl

-- all ones lie below place p
pub ones_all : (v m p : ℕ) → v < 2 ^ m → m ≤ p → ones_to v p ≡ ones v
ones_all v m p h l = ap ones (mod-eq_of_lt (lt_of_lt_of_le h (pow_mono l)))

pub raised_none : (s : List ℕ) (at : ℕ) → Raised s at 0 0 0 (record { acc = 0; words = 0; next = 1; stop = 64 })
unfolding ones
raised_none s at = record {
  held = held_none s at;
  place = omega arith;
  fits = omega arith;
  top = omega arith;
  counted = refl;
  next = refl;
  stop = (omega arith, omega arith);
  pointed = λ q l h. absurd (omega arith);
}

module _ (s : List ℕ) (at h i v : ℕ) (b : Ups) (r : Raised s at h i v b) where
  pub raised_alike : (t : List ℕ) → Alike t s at (at + 8 * b.words) → Alike t s 13 (9 + 4 * b.next)
      → Raised t at h i v b
  raised_alike t e g = record {
    held = held_alike s at v b.words b.acc r.held t e;
    place = r.place;
    fits = r.fits;
    top = r.top;
    counted = r.counted;
    next = r.next;
    stop = r.stop;
    pointed = λ q l u. subst (λ n. After (ones_to v) (256 * q) n)
        (sym (be_at_same 4 t s (9 + 4 * q) (λ j m n. g j (omega arith) (omega arith)))) (r.pointed q l u);
  }

  -- what is in hand is one word
  pub raised_lt : b.acc < 2 ^ 64
  raised_lt =
      let e : 64 + 64 * b.words ≡ 64 * (b.words + 1) = omega arith in
      rw r.held.rest (shr_lt 64 (64 * b.words) (rw e r.fits))

  -- and all of it lies below a place of the same word that no one has reached
  pub raised_below : (p : ℕ) → h + i ≤ p → p / 64 ≡ b.words → b.acc < 2 ^ (p % 64)
  raised_below p l e =
      let g : h + i ≤ p % 64 + 64 * b.words = omega arith in
      rw r.held.rest (shr_lt (p % 64) (64 * b.words) (lt_of_lt_of_le r.top (pow_mono g)))

  -- a pointer behind all the ones
  pointed_last : (q : ℕ) → b.next ≤ q → After (ones_to v) (256 * q) (256 * q + i)
  pointed_last q l = record {
    counted = ap (λ n. 256 * q + n) (ones_all v (h + i) (256 * q + i) r.top (omega (arith, r.next)) ∙ r.counted);
    zero_last = λ j e. ones_all v (h + i) (suc j) r.top (omega (arith, r.next))
        ∙ sym (ones_all v (h + i) j r.top (omega (arith, r.next)));
  }

  -- the pointers up to high part z
  pub pointed_more : (z : ℕ) (t : List ℕ) → h ≤ z → Stored 4 9 (λ q. 256 * q + i) b.next (z / 256 + 1) s t
      → (q : ℕ) → 0 < q → q < z / 256 + 1 → After (ones_to v) (256 * q) (be_at 4 t (9 + 4 * q))
  pointed_more z t hz st q l u =
      elim (dec_lt q b.next) [
        | yes y ↦
            subst (λ n. After (ones_to v) (256 * q) n)
            (sym (stored_apart 4 9 (λ q. 256 * q + i) b.next (z / 256 + 1) s t st 4 (9 + 4 * q) (inl (omega arith))))
            (r.pointed q l y)
        | no y ↦ subst (λ n. After (ones_to v) (256 * q) n) (sym (st.numbers q (omega arith) u))
            (pointed_last q (omega arith))
      ]

  pub raised_more : (z word stop : ℕ) (t : List ℕ) → stop ≤ 64 * ((z + i) / 64 + 1)
      → stop ≤ 256 * (z / 256 + 1) + (i + 1) → h ≤ z → Held t at v ((z + i) / 64) word
      → ((q : ℕ) → 0 < q → q < z / 256 + 1 → After (ones_to v) (256 * q) (be_at 4 t (9 + 4 * q)))
      → Raised t at z (i + 1) (v + 2 ^ (z + i)) (record {
        acc = word + 2 ^ ((z + i) % 64);
        words = (z + i) / 64;
        next = z / 256 + 1;
        stop = stop;
      })
  raised_more z word stop t sw sd hz a p = record {
    held =
        let g : 64 * ((z + i) / 64) + (z + i) % 64 ≡ z + i = omega arith in
        rw (one-mul (2 ^ (z + i)), one-mul (2 ^ ((z + i) % 64))) at
        (rw g at (held_add t at v ((z + i) / 64) word a 1 ((z + i) % 64)));
    place = omega arith;
    fits =
        let g : z + i + 1 ≤ 64 * ((z + i) / 64 + 1) = omega arith in
        lt_of_lt_of_le more (pow_mono g);
    top =
        let g : z + (i + 1) ≡ z + i + 1 = omega arith in
        rw g more;
    counted = rw (add_comm v (2 ^ (z + i)), ← one-mul (2 ^ (z + i)))
        (ones_cat (z + i) 1 v below ∙ omega (arith, one_of, r.counted));
    next = refl;
    stop = (sw, sd);
    pointed = λ q l u. after_more v (z + i) (256 * q) (be_at 4 t (9 + 4 * q))
        (after_le (ones_to v) (ones_steps v) (256 * q) (be_at 4 t (9 + 4 * q)) (p q l u) (z + i)
        (omega (arith, ones_all v (h + i) (z + i) r.top (omega arith), r.counted)))
        (p q l u);
  }
    where
      below : v < 2 ^ (z + i)
      below =
          let g : h + i ≤ z + i = omega arith in
          lt_of_lt_of_le r.top (pow_mono g)

      more : v + 2 ^ (z + i) < 2 ^ (z + i + 1)
      more = rw (pow-add 2 (z + i) 1) (omega (arith, below))

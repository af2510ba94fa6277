-- Laws of the lower run read part after part, with what is left of its word held.
use mathlib.Core.Path.{◌≡◌, sym, ap, ◌∙◌, subst}
use mathlib.Core.List.{List}
use Prim.Native.Nat.{ℕ, ◌+◌, ◌-◌, ◌*◌, ◌/◌, ◌%◌, ◌^◌, ◌≤◌, ◌<◌}
use native.Mathlib.Nat.{add_comm, add-mul, one-mul, mul-le-mul_right, mod-eq_of_lt}
use native.Mathlib.Decide.{dec_lt}
use native.Mathlib.Omega.{arith}
use borrow.Author.Tests.{le-leb, lt-leb}
use lib.Bits.{bit_and, bit_or, or_shifted_r}
use lib.ListN.{length}
use lib.Pow.{pow_pos, high, low}
use Rattle.rules.specs.Bytes.{be_at}
use Rattle.rules.specs.Runs.{run_word, field, words_for}
use Rattle.laws.proofs.BitLaws.{one_shl, masked, shl_keeps, wrap_add}
use Rattle.laws.proofs.RunLaws.{word_is, run_bit_lem, field_is, field_none, field_lt, field_cat}
use Rattle.shape.specs.declared.Shape.{Shape}
use Rattle.checklaws.specs.declared.Low.{Low}
use Rattle.checklaws.specs.Check.{Laid, next_low, Held}

-- ---- one part more, as the machine makes it

-- `1 << w` can be less by 1
pub mask_pos : (w : ℕ) → w < 64 → 1 ≤ (1 * 2 ^ w) % 2 ^ 64
mask_pos w h = rw (one_shl w h) (pow_pos w)

-- `left | (next << b)`, of which w bits are wanted
far_part : (next left b w : ℕ) → b < 64 → w ≤ 64 → left < 2 ^ b
    → bit_or left ((next * 2 ^ b) % 2 ^ 64) % 2 ^ w ≡ (next * 2 ^ b + left) % 2 ^ w
far_part next left b w g h u =
    let s : 64 - b + b ≡ 64 = omega arith in
    let t : 64 - w + w ≡ 64 = omega arith in
    let both : bit_or left ((next * 2 ^ b) % 2 ^ 64) ≡ (next * 2 ^ b) % 2 ^ 64 + left =
    subst (λ (n : ℕ). bit_or left ((next * 2 ^ b) % 2 ^ n) ≡ (next * 2 ^ b) % 2 ^ n + left) s
    (rw shl_keeps (or_shifted_r (next % 2 ^ (64 - b)) b left u)) in
    rw both
    (subst (λ (n : ℕ). ((next * 2 ^ b) % 2 ^ n + left) % 2 ^ w ≡ (next * 2 ^ b + left) % 2 ^ w) t
    (wrap_add (next * 2 ^ b) left (64 - w) w))

module _ (s : List ℕ) (l : Low) (w : ℕ) where
  near_is : w ≤ l.held
      → next_low s w l ≡ record { part = l.left % 2 ^ w; left = l.left / 2 ^ w; held = l.held - w; at = l.at }
  unfolding next_low
  near_is h = rw (le-leb w l.held h)

  far_is : l.held < w → next_low s w l ≡ record {
    part = (be_at 8 s l.at * 2 ^ l.held + l.left) % 2 ^ w;
    left = be_at 8 s l.at / 2 ^ (w - l.held);
    held = l.held + 64 - w;
    at = l.at + 8;
  }
  unfolding next_low
  far_is h = rw (lt-leb w l.held h)

  pub low_near : w < 64 → w ≤ l.held → record {
    part = bit_and l.left ((1 * 2 ^ w) % 2 ^ 64 - 1);
    left = l.left / 2 ^ w;
    held = l.held - w;
    at = l.at;
  } ≡ next_low s w l
  low_near n h = rw (masked l.left w n) (sym (near_is h))

  pub low_far : (next : ℕ) → next ≡ be_at 8 s l.at → w < 64 → l.left < 2 ^ l.held → l.held < w → record {
    part = bit_and (bit_or l.left ((next * 2 ^ l.held) % 2 ^ 64)) ((1 * 2 ^ w) % 2 ^ 64 - 1);
    left = next / 2 ^ (w - l.held);
    held = l.held + 64 - w;
    at = l.at + 8;
  } ≡ next_low s w l
  low_far next e n u h =
      rw (
        masked (bit_or l.left ((next * 2 ^ l.held) % 2 ^ 64)) w n,
        far_part next l.left l.held w (omega arith) (omega arith) u,
        e,
      ) (sym (far_is h))

-- ---- a word as a field

word_field : (s : List ℕ) (at m : ℕ) → run_word s at m < 2 ^ 64 → field s at (64 * m) 64 ≡ run_word s at m
word_field s at m f =
    sym (field_is s at (64 * m) (run_word s at m) 64 (λ j u. sym (run_bit_lem s at m j u))) ∙ mod-eq_of_lt f

-- a field cut in two
module _ (s : List ℕ) (at o a b : ℕ) where
  both : field s at o (a + b) ≡ field s at (o + a) b * 2 ^ a + field s at o a
  both = field_cat s at o a b ∙ add_comm (field s at o a) (field s at (o + a) b * 2 ^ a)

  field_front : field s at o (a + b) % 2 ^ a ≡ field s at o a
  field_front = rw both (low (field s at (o + a) b) a (field_lt s at o a))

  field_back : field s at o (a + b) / 2 ^ a ≡ field s at (o + a) b
  field_back = rw both (high (field s at (o + a) b) a (field_lt s at o a))

-- ---- where the parts lie

module _ (s : List ℕ) (g : Shape) (i : ℕ) (l : Low) (h : Held s g i l) where
  abbrev o : ℕ
  o = i * g.w

  more : (i + 1) * g.w ≡ i * g.w + g.w
  more = rw (add-mul, one-mul)

  pub held_lt : l.held < 64
  unfolding words_for
  held_lt = omega (arith, h.held_is)

  pub left_lt : l.left < 2 ^ l.held
  left_lt = rw h.left_is (field_lt s g.lower o l.held)

  module _ (u : g.w ≤ l.held) where
    cut : g.w + (l.held - g.w) ≡ l.held
    cut = omega arith

    near_words : words_for (i * g.w + g.w) ≡ words_for (i * g.w)
    unfolding words_for
    near_words = omega (arith, h.held_is)

    near_part : l.left % 2 ^ g.w ≡ field s g.lower (i * g.w) g.w
    near_part =
        rw h.left_is
        (subst (λ (n : ℕ). field s g.lower o n % 2 ^ g.w ≡ field s g.lower o g.w) cut
        (field_front s g.lower o g.w (l.held - g.w)))

    near_left : l.left / 2 ^ g.w ≡ field s g.lower (i * g.w + g.w) (l.held - g.w)
    near_left =
        rw h.left_is
        (subst (λ (n : ℕ). field s g.lower o n / 2 ^ g.w ≡ field s g.lower (o + g.w) (l.held - g.w)) cut
        (field_back s g.lower o g.w (l.held - g.w)))

    near_held : Held s g (i + 1) (next_low s g.w l)
    near_held = rw (near_is s l g.w u) (record {
      held_is = rw (more, near_words) (omega (arith, h.held_is));
      left_is = rw more near_left;
      at_is = rw (more, near_words) h.at_is;
    })

  module _ (fits : be_at 8 s l.at < 2 ^ 64) (u : l.held < g.w) (narrow : g.w ≤ 64) where
    far_words : words_for (i * g.w + g.w) ≡ words_for (i * g.w) + 1
    unfolding words_for
    far_words = omega (arith, h.held_is)

    -- the next word is the field behind what is left
    next_is : be_at 8 s l.at ≡ field s g.lower (i * g.w + l.held) 64
    next_is =
        let e = word_is s g.lower (words_for o) l.at h.at_is in
        e ∙ sym (rw h.held_is (word_field s g.lower (words_for o) (rw e at fits)))

    far_all : be_at 8 s l.at * 2 ^ l.held + l.left ≡ field s g.lower (i * g.w) (l.held + 64)
    far_all = rw (next_is, h.left_is) (sym (both s g.lower o l.held 64))

    far_part_is : (be_at 8 s l.at * 2 ^ l.held + l.left) % 2 ^ g.w ≡ field s g.lower (i * g.w) g.w
    far_part_is =
        let e : g.w + (l.held + 64 - g.w) ≡ l.held + 64 = omega arith in
        rw far_all
        (subst (λ (n : ℕ). field s g.lower o n % 2 ^ g.w ≡ field s g.lower o g.w) e
        (field_front s g.lower o g.w (l.held + 64 - g.w)))

    far_left : be_at 8 s l.at / 2 ^ (g.w - l.held) ≡ field s g.lower (i * g.w + g.w) (l.held + 64 - g.w)
    far_left =
        let d : ℕ = g.w - l.held in
        let r : ℕ = l.held + 64 - g.w in
        let e : d + r ≡ 64 = omega arith in
        let p : o + l.held + d ≡ o + g.w = omega arith in
        rw next_is
        (subst (λ (n : ℕ). field s g.lower (o + l.held) n / 2 ^ d ≡ field s g.lower (o + g.w) r) e
        (field_back s g.lower (o + l.held) d r ∙ ap (λ (q : ℕ). field s g.lower q r) p))

    far_held : Held s g (i + 1) (next_low s g.w l)
    far_held = rw (far_is s l g.w u) (record {
      held_is = rw (more, far_words) (omega (arith, h.held_is));
      left_is = rw more far_left;
      at_is = rw (more, far_words) (omega (arith, h.at_is));
    })

  -- the next part, and where the run is read behind it
  module _ (fits : be_at 8 s l.at < 2 ^ 64) (narrow : g.w ≤ 64) where
    pub held_part : (next_low s g.w l).part ≡ field s g.lower (i * g.w) g.w
    held_part = elim (dec_lt l.held g.w) [
      | yes u ↦ rw (far_is s l g.w u) (far_part_is fits u narrow)
      | no u ↦
          let v : g.w ≤ l.held = omega arith in
          rw (near_is s l g.w v) (near_part v)
    ]

    pub held_next : Held s g (i + 1) (next_low s g.w l)
    held_next = elim (dec_lt l.held g.w) [
      | yes u ↦ far_held fits u narrow
      | no u ↦ near_held (omega arith)
    ]

  -- the word that the part reaches into
  pub held_room : Laid s g → i < g.n → l.held < g.w → l.at + 8 ≤ length s
  unfolding words_for
  held_room d u t =
      let m : (i + 1) * g.w ≤ g.n * g.w = mul-le-mul_right g.w (omega arith) in
      omega (arith, m, more, h.held_is, h.at_is, d.upper_at_lem, d.length_is)

pub held_start : (s : List ℕ) (g : Shape) → Held s g 0 (record { part = 0; left = 0; held = 0; at = g.lower })
unfolding words_for
held_start s g = record {
  held_is = omega arith;
  left_is = sym (field_none s g.lower (0 * g.w));
  at_is = omega arith;
}

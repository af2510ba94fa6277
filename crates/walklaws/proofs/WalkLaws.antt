-- Steps of a walk over the run of a block, in either form: over words, and from one to one; and over the zeros of an
-- upper run to zero number h.
use mathlib.Core.Path.{◌≡◌, refl, sym, ap, ◌∙◌}
use mathlib.Core.List.{List}
use Prim.Native.Nat.{ℕ, suc, ◌+◌, ◌-◌, ◌*◌, ◌/◌, ◌%◌, ◌^◌, ◌≤◌, ◌<◌}
use native.Mathlib.Nat.{add-zero, mod-eq_of_lt, mul-mod_left, mul-div_cancel, div-mul-le_self}
use native.Mathlib.Decide.{ℕ_discrete}
use native.Mathlib.Omega.{arith}
use lib.Bits.{bit_and}
use lib.Count.{ones, ones-le, count_trailing_zeros}
use lib.Pow.{pow_pos}
use Rattle.rules.specs.Runs.{run_word, run_bit, words_for}
use Rattle.rules.specs.Counts.{ones_below}
use Rattle.laws.proofs.BitLaws.{shr_kept, bit_kept}
use Rattle.laws.proofs.RunLaws.{run_bit_lem, words_hold, ones_whole}
use Rattle.laws.proofs.CountLaws.{ones_parts, word_ones, next_word, ones_below_le}
use Rattle.fields.specs.Words.{place_of_one}
use Rattle.fields.proofs.WordLaws.{run_one}
use Rattle.shape.specs.declared.Shape.{Shape}
use Rattle.listlaws.proofs.AfterLaws.{run_after_from}
use Rattle.readlaws.specs.Open.{OneAt}
use Rattle.walklaws.specs.declared.Ones.{Ones}
use Rattle.walklaws.specs.Walks.{RunIn, Walking, Skipping, ZeroIn, AtZero, Skipped}
use Rattle.walklaws.proofs.RestLaws.{rest_none, rest_first, rest_drop, rest_all, rest_from}
use Rattle.walklaws.proofs.OpenLaws.{words_few, ones_few, one_number}

module _ (s : List ℕ) (g : Shape) (run : RunIn s g) where
  abbrev below : ℕ → ℕ
  below p = ones_below s g.upper p

  abbrev word : ℕ → ℕ
  word k = run_word s g.upper k

  word_below : (k : ℕ) → below (64 * (k + 1)) ≡ below (64 * k) + ones (word k)
  word_below k = next_word s g.upper k (word k) refl (run.word_lt k)

  -- what is left of word k from place f on
  pub walking_from : (f : ℕ) (x : Ones) → f ≤ 64 → x.k < words_for g.bits → x.left ≡ word x.k / 2 ^ f * 2 ^ f
      → x.rank ≡ below (64 * x.k + f) → Walking s g x
  walking_from f x l i e c = record {
    within = i;
    gone = ones (word x.k % 2 ^ f);
    left_are = rw e (rest_from (word x.k) f (run.word_lt x.k) l);
    counted = c ∙ word_ones s g.upper x.k f l;
  }

  -- ---- over zeros

  -- the ones of word k below a place, and those of its bits from place f on
  kept_ones : (k f p : ℕ) → f ≤ p → p ≤ 64 → below (64 * k + p)
      ≡ below (64 * k + f) + ones (word k / 2 ^ f * 2 ^ f % 2 ^ p)
  kept_ones k f p l h =
      let e : f + (p - f) ≡ p = omega arith in
      let a = rw e at (ones_parts (word k) f (p - f)) in
      let b = rw e at (ones_parts (word k / 2 ^ f * 2 ^ f) f (p - f)) in
      let c = ap ones (mul-mod_left (word k / 2 ^ f) (2 ^ f)) in
      let d = mul-div_cancel (word k / 2 ^ f) (pow_pos f) in
      omega (
        arith,
        a,
        rw d at b,
        c,
        ones-le 0 0 (omega arith),
        word_ones s g.upper k f (omega arith),
        word_ones s g.upper k p (omega arith),
      )

  module _ (h : ℕ) (x : Ones) (z : Skipping s g h x) where
    -- the ones before the next word
    through : below (64 * (x.k + 1)) ≡ x.rank + ones x.left
    through =
        let l : x.left < 2 ^ 64 = rw z.left_is
        (omega (arith, div-mul-le_self (word x.k) (2 ^ z.place), run.word_lt x.k)) in
        let e : 64 * (x.k + 1) ≡ 64 * x.k + 64 = omega arith in
        rw (e, z.counted)
        (kept_ones x.k z.place 64 z.place_le (omega arith)
        ∙ ap (λ (v : ℕ). below (64 * x.k + z.place) + ones v) (mod-eq_of_lt (rw (← z.left_is) l) ∙ sym z.left_is))

    pub rank_small : x.rank < 2 ^ 32
    rank_small = omega (
      arith,
      z.counted,
      ones_few s g run (64 * x.k + z.place),
      run.counted,
      ones_below_le s g.upper g.bits,
      run.short,
    )

    pub skipping_in : h + (x.rank + ones x.left) ≤ 64 * x.k + 64 → ZeroIn h x
    skipping_in l = record {
      few = omega (arith, words_few s g run x.k z.within);
      small = rank_small;
      behind = omega (arith, z.short);
      reached = l;
    }

    module _ (enough : h + g.n ≤ g.bits) (l : 64 * x.k + 64 < h + (x.rank + ones x.left)) where
      pub skipping_inside : x.k + 1 < words_for g.bits
      skipping_inside = omega (arith, through, ones_few s g run (64 * (x.k + 1)), words_hold g.bits)

      pub skipping_next : (y : Ones) → y.k ≡ x.k + 1 → y.left ≡ word (x.k + 1) → y.rank ≡ x.rank + ones x.left
          → Skipping s g h y
      skipping_next y k w r = record {
        within = omega (arith, skipping_inside);
        place = 0;
        place_le = omega arith;
        left_is = rw (k, w) (omega arith);
        counted = rw (k, add-zero (64 * (x.k + 1))) (r ∙ sym through);
        short = rw k (omega arith);
      }

    -- zero number h, in the word
    pub skipped_at : (r : Ones) → AtZero h x r → Skipped s g h r
    skipped_at r a =
        let f : z.place ≤ a.place = omega (arith, z.short, a.number, a.rank_is) in
        let p : ℕ = 64 * x.k + a.place in
        let rank : r.rank ≡ below p = a.rank_is
        ∙ rw (z.counted, z.left_is) (sym (kept_ones x.k z.place a.place f (omega (arith, a.inside)))) in
        let free : run_bit s g.upper p ≡ 0 =
        run_bit_lem s g.upper x.k a.place a.inside
        ∙ sym (bit_kept (word x.k) z.place a.place f) ∙ rw (← z.left_is) a.zero in
        let e : suc p ≡ r.rank + h = omega (arith, a.number) in
        record {
          at =
              walking_from a.place r (omega (arith, a.inside)) (rw a.k_kept z.within)
              (rw a.k_kept (a.left_is ∙
              rw z.left_is (ap (λ (v : ℕ). v * 2 ^ a.place) (shr_kept (word x.k) z.place a.place f))))
              (rw a.k_kept rank);
          passed = rw e at (run_after_from s g.upper h p free (omega (arith, rank, a.number)));
        }

  -- ---- over words

  module _ (x : Ones) (a : Walking s g x) where
    none_left : x.left ≡ 0 → x.rank ≡ below (64 * (x.k + 1))
    none_left e = omega (
      arith,
      a.counted,
      word_below x.k,
      rest_none (word x.k) x.left a.gone a.left_are e,
    )

    pub walking_next : (y : Ones) → x.left ≡ 0 → y.k ≡ x.k + 1 → x.k + 1 < words_for g.bits
        → y.left ≡ word (x.k + 1) → y.rank ≡ x.rank → Walking s g y
    walking_next y e k l w n = record {
      within = omega arith;
      gone = 0;
      left_are = rw (k, w) (rest_all (word (x.k + 1)) (run.word_lt (x.k + 1)));
      counted = rw k (omega (arith, none_left e));
    }

    -- where the run's last word has no one left all n are passed
    pub walking_end : x.left ≡ 0 → x.k + 1 ≡ words_for g.bits → x.rank ≡ g.n
    walking_end e k =
        none_left e ∙ rw k (ones_whole s g.upper g.bits (λ i l _. run.spare i l) ∙ run.counted)

    -- no more than n are passed
    pub walking_few : x.rank ≤ g.n
    walking_few = omega (
      arith,
      a.counted,
      word_below x.k,
      a.left_are.within,
      ones_few s g run (64 * (x.k + 1)),
    )

    -- and while there are fewer, an empty word is not the last
    pub walking_more : x.left ≡ 0 → x.rank < g.n → x.k + 1 < words_for g.bits
    walking_more e l =
        elim (ℕ_discrete (x.k + 1) (words_for g.bits)) [
          | yes d ↦ absurd (omega (arith, walking_end e d))
          | no d ↦ omega (arith, a.within)
        ]

    -- ---- from one to one

    module _ (some : 0 < x.left) where
      abbrev bit : ℕ
      bit = 64 * x.k + count_trailing_zeros 64 x.left

      first : (place_of_one 64 (word x.k) a.gone < 64)
          × (count_trailing_zeros 64 x.left ≡ place_of_one 64 (word x.k) a.gone)
      first = rest_first (word x.k) x.left a.gone a.left_are some

      pub one_lt : count_trailing_zeros 64 x.left < 64
      one_lt = omega (arith, first)

      one_at : (run_bit s g.upper bit ≡ 1) × (below bit ≡ below (64 * x.k) + a.gone)
      one_at = rw first.1 (run_one s g.upper x.k a.gone (word x.k) refl first.0)

      pub one_bit : run_bit s g.upper bit ≡ 1
      one_bit = one_at.0

      pub one_rank : below bit ≡ x.rank
      one_rank = one_at.1 ∙ sym a.counted

      pub one_there : OneAt s g.upper x.rank bit
      one_there = record { set = one_bit; below = one_rank }

      pub one_ahead : x.rank < g.n
      one_ahead = one_number s g run bit x.rank one_there

      pub walking_drop : (y : Ones) → y.k ≡ x.k → y.left ≡ bit_and x.left (x.left - 1) → y.rank ≡ x.rank + 1
          → Walking s g y
      walking_drop y k w n = record {
        within = omega (arith, a.within);
        gone = a.gone + 1;
        left_are = rw (k, w) (rest_drop (word x.k) x.left a.gone a.left_are some);
        counted = rw k (omega (arith, a.counted));
      }

-- Laws of the whole pass:
-- where it starts, what a word with too many ones shows, and what is left to test behind the last word.
use mathlib.Core.Bool.{true}
use mathlib.Core.Path.{◌≡◌, refl, sym, ◌∙◌}
use mathlib.Core.List.{List}
use Prim.Native.Nat.{ℕ, ◌+◌, ◌-◌, ◌*◌, ◌^◌, ◌≤◌, ◌<◌}
use native.Mathlib.Decide.{dec_lt}
use native.Mathlib.Omega.{arith}
use borrow.Author.Tests.{le-leb, leb-true}
use lib.Count.{ones}
use lib.Dec.{leb}
use Rattle.rules.specs.Runs.{words_for}
use Rattle.rules.specs.Counts.{ones_below}
use Rattle.rules.specs.List.{rising}
use Rattle.rules.specs.ReadList.{elements}
use Rattle.laws.proofs.CountLaws.{below_none, next_word}
use Rattle.laws.proofs.RunLaws.{words_hold, ones_mono}
use Rattle.shape.specs.declared.Shape.{Shape}
use Rattle.listlaws.specs.Sound.{climbs, least}
use Rattle.listlaws.proofs.RisingLaws.{and_parts, rising_climbs}
use Rattle.checklaws.specs.Check.{Laid, Holds, passed, Climbed, last_of, Pointed, Ready, At, Trimmed}
use Rattle.checklaws.proofs.LowLaws.{held_start}
use Rattle.checklaws.proofs.ClimbLaws.{passed_zeros}

-- ---- the start

module _ (s : List ℕ) (g : Shape) (d : Laid s g) where
  climbed_start : Climbed s g (64 * 0) 0 0 true
  unfolding elements climbs least
  climbed_start = record { counted = below_none s g.upper; climb = refl; least_is = refl }

  pub pointed_start : Pointed s g (64 * 0) 0 1
  pointed_start = record {
    first = omega arith;
    last = omega (arith, d.lower_at_lem);
    ahead = λ _. omega arith;
    behind = λ j f h. absurd (omega arith);
  }

  pub at_start : At s g 0 (record {
    i = 0;
    next = 1;
    last = 0;
    low = record { part = 0; left = 0; held = 0; at = g.lower };
  })
  unfolding last_of
  at_start = record {
    few = omega arith;
    bound = 0;
    climbed = climbed_start;
    last_is = refl;
    pointed = pointed_start;
    held = held_start s g;
  }

-- ---- a word

-- more ones than elements
pub refuse_many : (s : List ℕ) (g : Shape) (k i q x : ℕ) → Ready s g k i q x → x < 2 ^ 64 → g.n < i + ones x → Holds s g → ⊥
refuse_many s g k i q x r fits l a =
    let e : 64 * (k + 1) + 64 * (words_for g.bits - (k + 1)) ≡ 64 * words_for g.bits = omega (arith, r.inside) in
    omega (
      arith,
      rw e at (ones_mono s g.upper (64 * (k + 1)) (64 * (words_for g.bits - (k + 1)))),
      a.ones_are,
      next_word s g.upper k x r.word_is fits,
      r.counted,
      l,
    )

-- ---- the end

module _ (s : List ℕ) (g : Shape) (d : Trimmed s g) where
  pub passed_all : passed s g (64 * words_for g.bits) ≡ passed s g g.bits
  passed_all = passed_zeros s g g.bits (64 * words_for g.bits) (words_hold g.bits) d.upper_spare

  -- what is left to be known of words that are passed, with their pointers
  module _ (i q : ℕ) (counted : ones_below s g.upper (64 * words_for g.bits) ≡ i)
      (p : Pointed s g (64 * words_for g.bits) i q) where
    pub refuse_count : (i ≡ g.n → ⊥) → Holds s g → ⊥
    refuse_count h b = h (sym counted ∙ b.ones_are)

    pub holds : i ≡ g.n → rising 0 g.u (passed s g g.bits) ≡ true → Holds s g
    unfolding words_for
    holds n r = record {
      ones_are = counted ∙ n;
      upper_spare = d.upper_spare;
      lower_spare = d.lower_spare;
      rises = r;
      pointers_are = λ j f h.
          elim (dec_lt j q) [
            | yes y ↦ p.behind j f y
            | no y ↦ absurd (omega (arith, p.ahead (omega arith), d.laid.lower_at_lem))
          ];
    }

  -- the elements climb: they rise where the least that may follow them is within the bound
  module _ (i m : ℕ) (c : Climbed s g (64 * words_for g.bits) i m true) where
    abbrev xs : List ℕ
    xs = passed s g g.bits

    least_all : least 0 (passed s g g.bits) ≡ m
    least_all = rw passed_all at c.least_is

    pub bound_rises : m ≤ g.u → rising 0 g.u (passed s g g.bits) ≡ true
    bound_rises u =
        let e : climbs 0 xs ≡ true = rw passed_all at c.climb in
        rising_climbs 0 g.u xs (omega arith) ∙ rw (e, least_all) (le-leb m g.u u)

    pub refuse_bound : g.u < m → Holds s g → ⊥
    refuse_bound h b =
        let p = and_parts (climbs 0 xs) (leb (least 0 xs) g.u)
        (rw (rising_climbs 0 g.u xs (omega arith)) at b.rises) in
        omega (arith, leb-true (least 0 xs) g.u p.1, least_all)

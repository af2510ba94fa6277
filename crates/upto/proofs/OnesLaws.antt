-- Laws of going from one to one with the word at hand: where it begins, on to the next word, past a one, to a bound.
use mathlib.Core.Path.{◌≡◌, refl, sym, ap, ◌∙◌}
use mathlib.Core.List.{List}
use Prim.Native.Nat.{ℕ, ◌+◌, ◌-◌, ◌*◌, ◌/◌, ◌%◌, ◌^◌, ◌≤◌, ◌<◌}
use native.Mathlib.Omega.{arith}
use lib.Bits.{bit_and}
use lib.Count.{count_trailing_zeros}
use lib.ListN.{length}
use Rattle.rules.specs.Runs.{run_word, words_for}
use Rattle.rules.specs.Counts.{ones_below}
use Rattle.shape.specs.declared.Shape.{Shape}
use Rattle.readlaws.specs.Open.{Open, OneAt}
use Rattle.readlaws.proofs.PartLaws.{flat_inside, word_inside}
use Rattle.walklaws.specs.declared.Ones.{Ones}
use Rattle.walklaws.specs.Walks.{RunIn, Walking}
use Rattle.walklaws.proofs.OpenLaws.{words_few, open_run}
use Rattle.walklaws.proofs.WalkLaws.{walking_from, walking_next, walking_more, walking_drop, one_lt, one_there}
use Rattle.span.specs.declared.Walk.{Walk}
use Rattle.span.specs.Walks.{WalkOn, PassedTo}
use Rattle.upto.specs.Bounds.{Passing, OnesLeft}

module _ (s : List ℕ) (g : Shape) (w : Walk) (o : WalkOn s g w) (more : w.next < g.n) where
  -- the word where reading stands lies in the run
  pub ahead_inside : (w.place / 64 < words_for g.bits) × (g.upper + 8 * (w.place / 64) + 8 ≤ length s)
  ahead_inside =
      let h : ones_below s g.upper w.place < g.n = omega (arith, o.counted) in
      let i = flat_inside s g o.opened w.place h w.place refl in
      (i, (word_inside s g o.opened w.place h (w.place / 64) i).0)

  pub ones_begin : (x y : ℕ) → x ≡ run_word s g.upper (w.place / 64)
      → y ≡ x / 2 ^ (w.place % 64) * 2 ^ (w.place % 64)
      → OnesLeft s g w.next (record {
        left = y;
        k = w.place / 64;
        rank = w.next;
      })
  ones_begin x y e l =
      let f : ℕ = w.place % 64 in
      let p : 64 * (w.place / 64) + f ≡ w.place = omega arith in
      record {
        walking =
            walking_from s g (open_run s g o.opened) f _ (omega arith) ahead_inside.0
            (l ∙ ap (λ (v : ℕ). v / 2 ^ f * 2 ^ f) e)
            (sym (ap (ones_below s g.upper) p ∙ o.counted));
        passed = refl;
      }

module _ (s : List ℕ) (g : Shape) (o : Open s g) (n : ℕ) (more : n < g.n) (x : Ones) (l : OnesLeft s g n x) where
  abbrev run : RunIn s g
  run = open_run s g o

  abbrev here : Walking s g x
  here = l.walking

  -- a word without a one left is not the last
  pub ones_go_on : x.left ≡ 0 → x.k + 1 < words_for g.bits
  ones_go_on e = walking_more s g run _ here e (omega (arith, l.passed))

  pub ones_next : x.left ≡ 0 → (y : ℕ) → y ≡ run_word s g.upper (x.k + 1)
      → OnesLeft s g n (record { left = y; k = x.k + 1; rank = x.rank })
  ones_next e y w = record {
    walking = walking_next s g run _ here _ e refl (ones_go_on e) w refl;
    passed = l.passed;
  }

  module _ (some : 0 < x.left) where
    abbrev place : ℕ
    place = 64 * x.k + count_trailing_zeros 64 x.left

    pub ones_place : OneAt s g.upper x.rank place × (place < 2 ^ 32)
    ones_place = (
      one_there s g run _ here some,
      omega (arith, words_few s g run x.k here.within, one_lt s g run _ here some),
    )

    pub ones_drop : OnesLeft s g (n + 1)
        (record { left = bit_and x.left (x.left - 1); k = x.k; rank = x.rank + 1 })
    ones_drop = record {
      walking = walking_drop s g run _ here some _ refl refl refl;
      passed = ap (λ (m : ℕ). m + 1) l.passed;
    }

-- one more is passed where all that are passed lie below b
pub passing_on : (s : List ℕ) (g : Shape) (to b : ℕ) (w r : Walk) → Passing s g to b w → w.next < to → w.past ≤ b
    → PassedTo s g (w.next + 1) r → Passing s g to b r
passing_on s g to b w r p l h d =
    let e : r.next - 1 ≡ w.next = omega (arith, d.at) in
    record { on = d.on; inside = omega (arith, d.at); below = rw e (omega (arith, p.on.past_is)) }

-- Laws of one element that is laid alone: a slot for it is what is asked of a list of one, above it as the base.
use mathlib.Core.Bool.{true}
use mathlib.Core.Path.{◌≡◌, ap}
use mathlib.Core.List.{List, [], ◌∷◌}
use Prim.Native.Nat.{ℕ, ◌+◌, ◌-◌, ◌*◌, ◌/◌, ◌%◌, ◌^◌, ◌<◌}
use native.Mathlib.Nat.{add-zero}
use native.Mathlib.Omega.{arith}
use borrow.Author.Tests.{le-leb, lt-ltb}
use borrow.Rule.Slice.PartMut.{mid_of, put_mid}
use lib.ListN.{length}
use Rattle.rules.specs.Bytes.{Bytes}
use Rattle.rules.specs.List.{rising}
use Rattle.rules.specs.Term.{raised}
use Rattle.shape.specs.declared.Shape.{Shape}
use Rattle.filllaws.specs.declared.Lows.{Lows}
use Rattle.addlaws.specs.declared.Highs.{Highs}
use Rattle.addlaws.specs.Adding.{LowOne, HighOne, Asked, Slots, BothLaid, Slot}
use Rattle.addlaws.proofs.BothLaws.{both_none, both_high, both_low}

pub raised_one : (x : ℕ) → raised x (0 ∷ []) ≡ x ∷ []
unfolding raised
raised_one x = ap (λ (y : ℕ). y ∷ []) (add-zero x)

pub rising_one : (x U : ℕ) → x < U → rising 0 U (x ∷ []) ≡ true
unfolding rising
rising_one x U h = rw (le-leb 0 x (omega arith), lt-ltb x U h)

-- a slot's shape, in the numbers that are at hand
abbrev pub shape_at : ℕ → ℕ → ℕ → Shape → Shape
shape_at lo up w g = record { u = g.u; n = g.n; w = w; bits = g.bits; lower = lo; upper = up; end = g.end }

pub slots_asked : {lo up w i b : ℕ} {xs d : List ℕ} {g : Shape} → Slots lo up w i b xs d g
    → Asked (shape_at lo up w g) i b xs d
slots_asked o = rw (← o.lower_is, ← o.upper_is, ← o.width_is) o.asked

module _ {lo up w i x : ℕ} {d : List ℕ} {g : Shape} (o : Slot lo up w i x d g) where
  pub one_asked : Asked (shape_at lo up w g) i x (0 ∷ []) d
  one_asked = rw (← o.lower_is, ← o.upper_is, ← o.width_is) (record {
    fitting = o.fitting;
    few = omega (arith, o.number);
    rises = rw (raised_one x) (rising_one x g.u o.below);
  })

  module _ (b : Bytes d) {a : Lows} (is : a ≡ record { acc = 0; have = i * w % 64; words = i * w / 64 })
      {h : Highs} {ys : List ℕ}
      (p : HighOne (record { acc = 0; word = 0 }) (x / 2 ^ w + i) h (mid_of up (length d - up) d) ys) where
    abbrev e : List ℕ
    e = put_mid up (length d - up) d ys

    -- its one is laid, and then its low part
    pub one_high : BothLaid (shape_at lo up w g) i x (0 ∷ []) 0 1 a h d e
    one_high = both_high one_asked (both_none one_asked b is) (omega arith) {ys = ys} (rw (add-zero x, add-zero i) p)

    pub one_low : {r : Lows} {zs : List ℕ} → LowOne w a x r (mid_of lo (length e - lo) e) zs
        → BothLaid (shape_at lo up w g) i x (0 ∷ []) 1 1 r h d (put_mid lo (length e - lo) e zs)
    one_low {zs = zs} q = both_low one_asked one_high (omega arith) {ys = zs} (rw (add-zero x) q)

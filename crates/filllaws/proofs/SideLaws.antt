-- Where the parts of a block lie, for any shape, and what one element more is to the numbers of the two runs.
use mathlib.Core.Path.{◌≡◌, refl, ap, ◌∙◌, subst}
use mathlib.Core.List.{List, [], ◌∷◌, ◌++◌}
use Prim.Native.Nat.{ℕ, suc, ◌+◌, ◌-◌, ◌*◌, ◌/◌, ◌%◌, ◌^◌, ◌≤◌, ◌<◌}
use native.Mathlib.Nat.{zero-mul}
use native.Mathlib.Decide.{dec_lt}
use native.Mathlib.Omega.{arith}
use lib.ListN.{length, length-append}
use Rattle.rules.specs.Limits.{limit}
use Rattle.rules.specs.Runs.{words_for}
use Rattle.rules.specs.List.{width, zeros, lower, upper, lower_at, upper_at, map_at, map_size}
use Rattle.rules.specs.List.{Form, two_runs, bitmap, form_size}
use Rattle.shape.specs.declared.Shape.{Shape}
use Rattle.shape.specs.Shape.{map_shape, form_shape}
use Rattle.listlaws.proofs.BlockLaws.{size_is}
use Rattle.shape.proofs.ShapeLaws.{shape_none, shape_some, form_shape_end, bounded}
use Rattle.listlaws.specs.Sound.{least}
use Rattle.listlaws.proofs.RisingLaws.{least_append}
use Rattle.filllaws.specs.Filling.{FittingAs, Fitting, high}

-- ---- the parts of a block

-- z zeros
pub record Sides (g : Shape) (z : ℕ) : Type 0 where
  pub bits : g.bits ≡ g.n + z
  pub lower : g.lower ≡ 13 + 4 * (z / 256)
  pub upper : g.upper ≡ g.lower + 8 * words_for (g.n * g.w)
  pub end : g.end ≡ g.upper + 8 * words_for (g.n + z)
  pub narrow : g.w ≤ 24
  pub few : z ≤ 16777216
  pub short : g.n * g.w ≤ 16777216
  pub many : g.n ≤ 16777216

module _ {o : Form} (g : Shape) (s : List ℕ) (f : FittingAs o g s) where
  -- a room of the same length fits too
  pub fitting_kept : (t : List ℕ) → length t ≡ length s → FittingAs o g t
  fitting_kept t e = record {
    shape = f.shape;
    below = f.below;
    within = f.within;
    room = omega (arith, f.room);
  }

  pub end_is : g.end ≡ form_size o g.u g.n
  end_is = ap (λ h. h.end) f.shape ∙ form_shape_end o g.u g.n

module _ (g : Shape) (s : List ℕ) (f : Fitting g s) where
  pub width_of : 0 < g.n → g.w ≡ width g.u g.n
  width_of some = ap (λ h. h.w) (f.shape ∙ shape_some g.u g.n some)

  pub lower_is : 0 < g.n → g.lower ≡ lower_at g.u g.w
  lower_is some = rw (width_of some) (ap (λ h. h.lower) (f.shape ∙ shape_some g.u g.n some))

  pub upper_is : 0 < g.n → g.upper ≡ upper_at g.u g.n g.w
  upper_is some = rw (width_of some) (ap (λ h. h.upper) (f.shape ∙ shape_some g.u g.n some))

  sides_some : 0 < g.n → Sides g (zeros g.u g.w)
  unfolding lower_at upper_at
  sides_some some =
      let e = f.shape ∙ shape_some g.u g.n some in
      let w = width_of some in
      let b = bounded g.u g.n some f.below f.within in
      record {
        bits = rw w (ap (λ h. h.bits) e);
        lower = lower_is some;
        upper = rw (lower_is some) (upper_is some);
        end = rw (upper_is some, w) (end_is g s f ∙ size_is g.u g.n some);
        narrow = rw w b.narrow;
        few = rw w (omega (arith, b.few, f.within));
        short = rw w (omega (arith, b.short, f.within));
        many = omega (arith, f.below, f.within);
      }

  sides_none : g.n ≡ 0 → Sides g 0
  unfolding words_for
  sides_none none =
      let e = f.shape ∙ shape_none g.u g.n none in
      let w : g.w ≡ 0 = ap (λ h. h.w) e in
      record {
        bits = rw none (ap (λ h. h.bits) e);
        lower = ap (λ h. h.lower) e;
        upper = rw (none, zero-mul, ap (λ h. h.lower) e) (ap (λ h. h.upper) e);
        end = rw (none, ap (λ h. h.upper) e) (ap (λ h. h.end) e);
        narrow = rw w (omega arith);
        few = omega arith;
        short = rw none (omega arith);
        many = rw none (omega arith);
      }

  -- the zeros of any block, and of one with elements
  pub sides : Sides g (g.bits - g.n)
  sides =
      elim (dec_lt 0 g.n) [
        | yes a ↦
            let t = sides_some a in
            let z : zeros g.u g.w ≡ g.bits - g.n = omega (arith, t.bits) in
            rw z at t
        | no b ↦
            let t = sides_none (omega arith) in
            let z : 0 ≡ g.bits - g.n = omega (arith, t.bits) in
            subst (λ k. Sides g k) z t
      ]

  pub zeros_of : 0 < g.n → g.bits - g.n ≡ zeros g.u g.w
  zeros_of some = omega (arith, (sides_some some).bits)

  runs_end : (13 ≤ g.end) × (g.end < 2 ^ 32)
  unfolding words_for
  runs_end =
      let t = sides in (
        omega (arith, t.lower, t.upper, t.end),
        omega (arith, t.lower, t.upper, t.end, t.few, t.short, t.many),
      )

map_end : (U : ℕ) → U ≤ limit → (13 ≤ map_size U) × (map_size U < 2 ^ 32)
unfolding map_size map_at words_for
map_end U h = (omega arith, omega arith)

-- a block has its header, and its length fits four bytes
ends : {o : Form} (g : Shape) (s : List ℕ) → FittingAs o g s → (13 ≤ g.end) × (g.end < 2 ^ 32)
ends {o = two_runs} g s f = runs_end g s f
ends {o = bitmap} g s f = rw (end_is g s f) (map_end g.u f.within)

pub header_fits : {o : Form} (g : Shape) (s : List ℕ) → FittingAs o g s → 13 ≤ g.end
header_fits g s f = (ends g s f).0

pub end_small : {o : Form} (g : Shape) (s : List ℕ) → FittingAs o g s → g.end < 2 ^ 32
end_small g s f = (ends g s f).1

-- ---- one element more

module _ (w : ℕ) (xs : List ℕ) (x : ℕ) where
  pub least_snoc : least 0 (xs ++ (x ∷ [])) ≡ x + 1
  unfolding least
  least_snoc = least_append 0 xs (x ∷ [])

  pub high_snoc : high w (xs ++ (x ∷ [])) ≡ x / 2 ^ w
  unfolding high
  high_snoc =
      let e : least 0 (xs ++ (x ∷ [])) - 1 ≡ x = omega (arith, least_snoc) in
      ap (λ k. k / 2 ^ w) e

  pub length_snoc : length (xs ++ (x ∷ [])) ≡ length xs + 1
  length_snoc = length-append xs (x ∷ [])

pub lower_snoc : (w i : ℕ) (xs : List ℕ) (x : ℕ)
    → lower w i (xs ++ (x ∷ [])) ≡ lower w i xs + x % 2 ^ w * 2 ^ ((i + length xs) * w)
unfolding lower
lower_snoc w i [] x =
    let e : i + length {A = ℕ} [] ≡ i = omega arith in
    rw e (omega arith)
lower_snoc w i (y ∷ xs) x =
    let e : i + 1 + length xs ≡ i + suc (length xs) = omega arith in
    rw (lower_snoc w (i + 1) xs x, e) (omega arith)

pub upper_snoc : (w i : ℕ) (xs : List ℕ) (x : ℕ)
    → upper w i (xs ++ (x ∷ [])) ≡ upper w i xs + 2 ^ (x / 2 ^ w + (i + length xs))
unfolding upper
upper_snoc w i [] x =
    let e : i + length {A = ℕ} [] ≡ i = omega arith in
    rw e (omega arith)
upper_snoc w i (y ∷ xs) x =
    let e : i + 1 + length xs ≡ i + suc (length xs) = omega arith in
    rw (upper_snoc w (i + 1) xs x, e) (omega arith)

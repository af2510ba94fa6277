-- Laws of a bitmap's numbers stored one after the other: each counts the ones of four words more, and all of them leave what
-- `map_numbered` has.
use mathlib.Core.Path.{◌≡◌, sym, ap, ap₂, ◌∙◌}
use mathlib.Core.List.{List}
use Prim.Native.Nat.{ℕ, ◌+◌, ◌-◌, ◌*◌, ◌/◌, ◌≤◌, ◌<◌}
use native.Mathlib.Omega.{arith}
use lib.ListN.{length, take, drop}
use lib.Seq.{sets}
use Rattle.rules.specs.Bytes.{Bytes, be}
use Rattle.rules.specs.Runs.{words_for}
use Rattle.rules.specs.List.{pages_below, map_at, map_size, bitmap}
use Rattle.rules.specs.Counts.{ones_below}
use Rattle.rules.specs.InPlace.{map_numbered}
use Rattle.shape.specs.declared.Shape.{Shape}
use Rattle.shape.specs.Shape.{map_shape}
use Rattle.listlaws.specs.Sound.{ones_to}
use Rattle.listlaws.proofs.AfterLaws.{ones_steps, ones_none}
use Rattle.laws.proofs.CountLaws.{count_slope}
use Rattle.maplaws.proofs.NumberLaws.{up_to_ones}
use Rattle.filllaws.specs.Filling.{Stored, FittingAs}
use Rattle.filllaws.proofs.StoreLaws.{stored_more}
use Rattle.pointlaws.proofs.NumberLaws.{number_below}
use Rattle.pointlaws.proofs.PointedLaws.{Spaced, run_number, run_same, stored_laid}

-- ---- a number more

below_none : (u : ℕ) → pages_below u 0 ≡ 0
unfolding pages_below
below_none u = up_to_ones u 0 ∙ ones_none u

below_ones : (u i : ℕ) → pages_below u i ≡ ones_to u (256 * i)
unfolding pages_below
below_ones u i = up_to_ones u (256 * i)

pub below_le : (u i : ℕ) → pages_below u i ≤ 256 * i
below_le u i =
    let e : 0 + 256 * i ≡ 256 * i = omega arith in
    omega (arith, below_ones u i, rw e at (count_slope (ones_to u) (ones_steps u) 0 (256 * i)), ones_none u)

module _ (g : Shape) (s : List ℕ) (f : FittingAs bitmap g s) where
  map_sides : (g.bits ≡ g.u) × (g.lower ≡ 13 + 4 * (g.u / 256)) × (g.upper ≡ g.lower)
      × (g.end ≡ g.upper + 8 * words_for g.u)
  unfolding map_shape map_at map_size
  map_sides =
      let a : g.bits ≡ g.u = ap (λ h. h.bits) f.shape in
      let b : g.lower ≡ 13 + 4 * (g.u / 256) = ap (λ h. h.lower) f.shape in
      let c : g.upper ≡ 13 + 4 * (g.u / 256) = ap (λ h. h.upper) f.shape in
      let d : g.end ≡ 13 + 4 * (g.u / 256) + 8 * words_for g.u = ap (λ h. h.end) f.shape in
      (a, b, c ∙ sym b, omega (arith, c, d))

  pub map_spaced : Spaced g (length s)
  map_spaced =
      let t = map_sides in
      record {
        header = omega (arith, t.1);
        pointers_end = omega (arith, t.1, t.2);
        run_end = omega (arith, ap words_for t.0, t.3, f.room);
        few = omega (arith, t.1, f.within);
        short = omega (arith, t.0, f.within);
      }

  -- as many numbers as have their place before the map
  pub map_numbers : (g.lower - 13) / 4 ≡ g.u / 256
  map_numbers = omega (arith, map_sides.1)

  -- the words up to number i's last are the map's
  pub map_words : (i : ℕ) → i < g.u / 256 → 4 * i + 4 ≤ words_for g.bits
  unfolding words_for
  map_words i h = omega (arith, map_sides.0)

-- the numbers that the map in s gives
abbrev pub number_in : Shape → List ℕ → ℕ → ℕ
number_in g s = pages_below (run_number g s)

pub number_none : (g : Shape) (s : List ℕ) → number_in g s 0 ≡ 0
number_none g s = below_none (run_number g s)

module _ (g : Shape) (d e : List ℕ) (f : FittingAs bitmap g d) (i : ℕ) (more : i < g.u / 256)
    (stored : Stored 4 9 (number_in g d) 1 (i + 1) d e) where
  -- the four words behind those that number i counts
  pub number_next_is : (c r : ℕ) → Bytes e → c ≡ number_in g d i
      → ones_below e g.upper (64 * (4 * i)) + r ≡ ones_below e g.upper (64 * (4 * i + 4)) → c + r ≡ number_in g d (i + 1)
  number_next_is c r bytes counted four =
      let p = map_spaced g d f in
      let k = run_same g (number_in g d) d e p (i + 1) stored (omega (arith, map_numbers g d f)) in
      let l = map_words g d f i more in
      let m : ℕ = words_for g.bits in
      let n = rw k at (number_below m g.upper e bytes (4 * i) (omega (arith, l))) in
      let t = rw k at (number_below m g.upper e bytes (4 * i + 4) l) in
      let a : 64 * (4 * i) ≡ 256 * i = omega arith in
      let b : 64 * (4 * i + 4) ≡ 256 * (i + 1) = omega arith in
      let u : ℕ = run_number g d in
      omega (arith, counted, rw (a, b) at four, rw a at n, rw b at t, below_ones u i, below_ones u (i + 1))

  pub number_more : (v : ℕ) (t : List ℕ) → v ≡ number_in g d (i + 1) → t ≡ sets e (13 + 4 * i) (be 4 v)
      → Stored 4 9 (number_in g d) 1 (i + 1 + 1) d t
  number_more v t is-next set =
      let p = map_spaced g d f in
      let a : 13 + 4 * i ≡ 9 + 4 * (i + 1) = omega arith in
      stored_more 4 9 (number_in g d) 1 (i + 1) d e stored (omega arith)
      (omega (arith, map_numbers g d f, p.pointers_end, p.run_end))
      (omega (arith, below_le (run_number g d) (i + 1), f.within)) t
      (set ∙ ap₂ (λ (j n : ℕ). sets e j (be 4 n)) a is-next)

-- ---- the block

module _ (g : Shape) (s t : List ℕ) (f : FittingAs bitmap g s)
    (stored : Stored 4 9 (number_in g s) 1 (g.u / 256 + 1) s t) (bs : Bytes s) (bt : Bytes t) where
  pub stored_numbered : t ≡ map_numbered g.u s
  unfolding map_numbered map_at
  stored_numbered =
      let m = map_sides g s f in
      let a : g.upper ≡ 13 + 4 * (g.u / 256) = m.2 ∙ m.1 in
      rw (m.0, a) at (stored_laid (number_in g s) (g.u / 256) s t
      (λ q l. omega (arith, below_le (run_number g s) q, f.within)) (omega (arith, m, f.room)) stored bs bt)

-- Laws of numbers of four bytes stored behind a header one after the other, as pointers are: the run behind them stays,
-- and all pointers leave what `pointed` has.
use mathlib.Core.Path.{◌≡◌, refl, sym, ap, ◌∙◌}
use mathlib.Core.Logic.{inl, inr}
use mathlib.Core.List.{List, ◌++◌}
use Prim.Native.Nat.{ℕ, zero, suc, ◌+◌, ◌-◌, ◌*◌, ◌/◌, ◌^◌, ◌≤◌, ◌<◌}
use native.Mathlib.Nat.{mod-eq_of_lt}
use native.Mathlib.Decide.{dec_lt}
use native.Mathlib.Omega.{arith}
use lib.ListN.{length, get_or, take, drop, length-append, length-drop, get_or-append}
use lib.Seq.{sets, take_all, length-take-le, get_or-append-add, get_or-drop, get_or-take, drop-drop}
use Rattle.rules.specs.Bytes.{Bytes, be, be_at}
use Rattle.rules.specs.Runs.{words_for}
use Rattle.rules.specs.List.{width, zeros, upper_at, after_zero, pointer, fours, pointers}
use Rattle.rules.specs.Write.{laid}
use Rattle.rules.specs.InPlace.{from, number_of, pointed}
use Rattle.laws.proofs.ByteLaws.{Alike, alike_append, alike_reads, alike_same, be_at_past}
use Rattle.laws.proofs.ByteLaws.{bytes_cat, bytes_take, bytes_drop}
use Rattle.shape.specs.declared.Shape.{Shape}
use Rattle.shape.proofs.ShapeLaws.{shape_none}
use Rattle.listlaws.proofs.AfterLaws.{length_fours, read_fours, bytes_fours}
use Rattle.filllaws.specs.Filling.{Stored, Fitting}
use Rattle.filllaws.proofs.StoreLaws.{stored_more}
use Rattle.filllaws.proofs.SideLaws.{sides, zeros_of, width_of, upper_is}
use Rattle.pointlaws.proofs.NumberLaws.{number_same}
use Rattle.pointlaws.proofs.PointLaws.{after_most}

-- ---- the bytes

module _ (f : ℕ → ℕ) (c : ℕ) (s t : List ℕ) (small : (q : ℕ) → q ≤ c → f q < 2 ^ 32) (room : 13 + 4 * c ≤ length s)
    (stored : Stored 4 9 f 1 (c + 1) s t) (bs : Bytes s) (bt : Bytes t) where
  abbrev P : List ℕ
  P = fours f 1 c

  abbrev rest : List ℕ
  rest = drop (length P) (drop 13 s)

  abbrev T : List ℕ
  T = take 13 s ++ (P ++ rest)

  front : length (take 13 s) ≡ 13
  front = length-take-le 13 s (omega arith)

  long : length T ≡ length t
  long = rw (length-append, length-append, length-drop, length-drop, front, length_fours)
      (omega (arith, stored.long))

  behind : (i : ℕ) → get_or T (13 + 4 * c + i) 0 ≡ get_or s (13 + 4 * c + i) 0
  behind i =
      let e : 13 + 4 * c + i ≡ length (take 13 s) + (length P + i) = omega (arith, front, length_fours f 1 c) in
      rw (e, get_or-append-add, get_or-append-add, drop-drop, get_or-drop)
      (let g : 13 + length P + i ≡ length (take 13 s) + (length P + i) = omega (arith, front) in
      ap (λ k. get_or s k 0) g)

  parts : Alike t T 0 (length t)
  parts =
      alike_append t T 0 13 (length t)
      (λ i l h. stored.others i (inl (omega arith))
      ∙ sym (get_or-append (take 13 s) (P ++ rest) 0 i (rw front h) ∙ get_or-take 13 s i 0 h))
      (alike_append t T 13 (13 + 4 * c) (length t)
      (alike_reads t T bt (bytes_cat (take 13 s) (P ++ rest) (bytes_take 13 s bs)
      (bytes_cat P rest (bytes_fours f 1 c) (bytes_drop (length P) (drop 13 s) (bytes_drop 13 s bs)))) 4 13 c
      (λ q h.
      let e : 13 + 4 * q ≡ 9 + 4 * (1 + q) = omega arith in
      let n : be_at 4 t (13 + 4 * q) ≡ f (1 + q) =
      rw e (stored.numbers (1 + q) (omega arith) (omega arith)) in
      n ∙ sym (be_at_past 4 13 (take 13 s) (P ++ rest) (4 * q) front ∙ read_fours f 1 c rest q h
      ∙ mod-eq_of_lt (small (1 + q) (omega arith)))))
      (λ i l h.
      let e : 13 + 4 * c + (i - (13 + 4 * c)) ≡ i = omega arith in
      stored.others i (inr (omega arith)) ∙ sym (rw e at (behind (i - (13 + 4 * c))))))

  pub stored_laid : t ≡ from 13 (laid (fours f 1 c)) s
  unfolding from laid
  stored_laid = alike_same t T (sym long) parts

-- where the numbers and the run lie
pub record Spaced (g : Shape) (room : ℕ) : Type 0 where
  pub header : 13 ≤ g.lower
  pub pointers_end : 13 + 4 * ((g.lower - 13) / 4) ≤ g.upper
  pub run_end : g.upper + 8 * words_for g.bits ≤ room
  pub few : g.lower ≤ 2 ^ 20
  pub short : g.bits < 2 ^ 32

pub spaced : (g : Shape) (s : List ℕ) → Fitting g s → Spaced g (length s)
spaced g s f =
    let d = sides g s f in
    let b : g.n + (g.bits - g.n) ≡ g.bits = sym d.bits in
    record {
      header = omega (arith, d.lower);
      pointers_end = omega (arith, d.lower, d.upper);
      run_end = omega (arith, rw b at d.end, f.room);
      few = omega (arith, d.lower, d.few);
      short = omega (arith, d.bits, d.few, d.many);
    }

-- the upper run that stands in s, as a number
abbrev pub run_number : Shape → List ℕ → ℕ
run_number g s = number_of (words_for g.bits) (drop g.upper s)

-- the same, of the part of s from the run on
abbrev pub run_back : Shape → List ℕ → ℕ
run_back g s = number_of (words_for g.bits) (take (length s - g.upper) (drop g.upper s))

-- the run is not changed by numbers stored before it
module _ (g : Shape) (v : ℕ → ℕ) (d e : List ℕ) (p : Spaced g (length d)) (q : ℕ) (stored : Stored 4 9 v 1 q d e)
    (within : q ≤ (g.lower - 13) / 4 + 1) where
  pub run_same : number_of (words_for g.bits) (drop g.upper e) ≡ run_number g d
  run_same = number_same (words_for g.bits) g.upper e d
      (λ i l h. stored.others i (inr (omega (arith, p.pointers_end))))

  pub run_kept : run_back g e ≡ run_number g d
  run_kept =
      let a : take (length e - g.upper) (drop g.upper e) ≡ drop g.upper e =
      take_all (length e - g.upper) (drop g.upper e) (omega (arith, length-drop g.upper e)) in
      rw a run_same

-- ---- one pointer more

-- the pointers that the run gives
abbrev pub pointer_in : Shape → List ℕ → ℕ → ℕ
pointer_in g s = pointer g.bits (run_number g s)

pointer_most : (b u q : ℕ) → pointer b u q ≤ b
unfolding pointer
pointer_most b u q = omega (arith, after_most u b (256 * q) 0)

module _ (g : Shape) (d e : List ℕ) (f : Fitting g d) (q : ℕ) (stored : Stored 4 9 (pointer_in g d) 1 q d e)
    (some : 1 ≤ q) (within : q ≤ (g.lower - 13) / 4 + 1) where
  pub pointer_more : (v : ℕ) (t : List ℕ) → q < (g.lower - 13) / 4 + 1
      → v ≡ after_zero g.bits (run_back g e) (256 * q) 0
      → t ≡ sets e (9 + 4 * q) (be 4 v) → Stored 4 9 (pointer_in g d) 1 (q + 1) d t
  unfolding pointer
  pointer_more v t h is set =
      let p = spaced g d f in
      let k = run_kept g (pointer_in g d) d e p q stored within in
      let r : v ≡ pointer_in g d q = is ∙ ap (λ u. after_zero g.bits u (256 * q) 0) k in
      stored_more 4 9 (pointer_in g d) 1 q d e stored some (omega (arith, p.pointers_end, p.run_end))
      (omega (arith, pointer_most g.bits (run_number g d) q, p.short)) t
      (set ∙ ap (λ n. sets e (9 + 4 * q) (be 4 n)) r)

-- ---- the block

pointed_some : (U n : ℕ) (s : List ℕ) → 0 < n → pointed U n s
    ≡ from 13 (laid (pointers (n + zeros U (width U n))
    (number_of (words_for (n + zeros U (width U n))) (drop (upper_at U n (width U n)) s)) 1 (zeros U (width U n) / 256))) s
unfolding pointed
pointed_some U zero s h = absurd (omega arith)
pointed_some U (suc m) s h = refl

pointed_none : (U n : ℕ) (s : List ℕ) → n ≡ 0 → pointed U n s ≡ s
unfolding pointed
pointed_none U n s e = rw e

module _ (g : Shape) (s t : List ℕ) (f : Fitting g s)
    (stored : Stored 4 9 (pointer_in g s) 1 ((g.lower - 13) / 4 + 1) s t) (bs : Bytes s) (bt : Bytes t) where
  none_pointed : g.n ≡ 0 → t ≡ pointed g.u g.n s
  none_pointed e =
      let l : g.lower ≡ 13 = ap (λ h. h.lower) (f.shape ∙ shape_none g.u g.n e) in
      alike_same t s stored.long (λ i a h. elim (dec_lt i 13) [
        | yes y ↦ stored.others i (inl (omega arith))
        | no y ↦ stored.others i (inr (omega arith))
      ]) ∙ sym (pointed_none g.u g.n s e)

  some_pointed : 0 < g.n → t ≡ pointed g.u g.n s
  some_pointed h =
      let d = sides g s f in
      let z = zeros_of g s f h in
      let w = width_of g s f h in
      let up = upper_is g s f h in
      let c : (g.lower - 13) / 4 ≡ zeros g.u g.w / 256 = rw (← z) (omega (arith, d.lower)) in
      let b : g.bits ≡ g.n + zeros g.u g.w = rw (← z) d.bits in
      let e = stored_laid (pointer_in g s) (zeros g.u g.w / 256) s t
      (λ q l. omega (arith, pointer_most g.bits (run_number g s) q, d.bits, d.few, d.many))
      (omega (arith, c, d.lower, d.upper, d.end, f.room))
      (rw c at stored) bs bt in
      rw (b, up, w) at e ∙ sym (pointed_some g.u g.n s h)

  pub stored_pointed : t ≡ pointed g.u g.n s
  stored_pointed = elim (dec_lt 0 g.n) [ yes h ↦ some_pointed h | no h ↦ none_pointed (omega arith) ]

-- An open block by the step rule's names, in either form:
-- its list, its run, the places of its elements, and what stands before a place.
use mathlib.Core.Bool.{true}
use mathlib.Core.Path.{◌≡◌, sym, ap}
use mathlib.Core.List.{List}
use Prim.Native.Nat.{ℕ, suc, ◌+◌, ◌-◌, ◌*◌, ◌/◌, ◌^◌, ◌≤◌, ◌<◌}
use native.Mathlib.Decide.{dec_lt}
use native.Mathlib.Omega.{arith}
use lib.ListN.{length, get_or}
use lib.Pow.{shr_mono}
use Rattle.rules.specs.Verdict.{Accepted}
use Rattle.rules.specs.Limits.{limit}
use Rattle.rules.specs.Runs.{run_word, words_for}
use Rattle.rules.specs.Counts.{ones_below}
use Rattle.rules.specs.List.{rising, width, zeros, Form, two_runs, bitmap}
use Rattle.rules.specs.ReadList.{list_u, list_n, form_at, decode, list_refusal}
use Rattle.rules.specs.Seek.{place_of, bits_of}
use Rattle.laws.proofs.ByteLaws.{be_at_lt}
use Rattle.laws.proofs.RunLaws.{ones_mono, ones_flat}
use Rattle.laws.proofs.CountLaws.{below_suc, run_steps}
use Rattle.shape.specs.declared.Shape.{Shape}
use Rattle.shape.specs.Shape.{shape_of}
use Rattle.shape.proofs.ShapeLaws.{shape_none, shape_some}
use Rattle.listlaws.specs.Sound.{After}
use Rattle.listlaws.proofs.AfterLaws.{after_le}
use Rattle.listlaws.proofs.ReadLaws.{accepted_length, rank_of_element}
use Rattle.maplaws.proofs.Theorems.{valid_rising, valid_bytes, valid_form, valid_alone}
use Rattle.maplaws.proofs.MapReadLaws.{page_set, page_rank}
use Rattle.readlaws.specs.Open.{Open, FormOpen, OneAt}
use Rattle.readlaws.proofs.OneLaws.{count_lt}
use Rattle.readlaws.proofs.FormLaws.{open_valid, map_reads, form_reads, form_length}
use Rattle.seeklaws.specs.Cursors.{Ahead}
use Rattle.seeklaws.proofs.JumpLaws.{bits_are}
use Rattle.walklaws.specs.Walks.{RunIn, Before}

-- ---- the run

module _ (s : List ℕ) (g : Shape) (r : RunIn s g) where
  -- it has few words
  pub words_few : (k : ℕ) → k < words_for g.bits → k < 2 ^ 20
  unfolding words_for
  words_few k h = omega (arith, r.short)

  -- of which each may be looked at, and the look counted
  pub look_fits : (k looks : ℕ) → k < words_for g.bits → looks ≤ 2 ^ 31 + k
      → (g.upper + 8 * k + 8 ≤ length s) × (looks < 2 ^ 32 - 1)
  look_fits k looks h l = (omega (arith, r.whole), omega (arith, words_few k h))

  -- no place has more than n ones before it
  pub ones_few : (p : ℕ) → ones_below s g.upper p ≤ g.n
  ones_few p =
      elim (dec_lt p g.bits) [
        | yes h ↦
            let e : p + (g.bits - p) ≡ g.bits = omega arith in
            omega (arith, rw e at (ones_mono s g.upper p (g.bits - p)), r.counted)
        | no h ↦
            let e : g.bits + (p - g.bits) ≡ p = omega arith in
            omega (
              arith,
              rw e at (ones_flat s g.upper g.bits (p - g.bits) (λ i l _. r.spare i l)),
              r.counted,
            )
      ]

  -- and no one has a number past the last element's
  pub one_number : (place rank : ℕ) → OneAt s g.upper rank place → rank < g.n
  one_number place rank a = omega (arith, a.set, a.below, below_suc s g.upper place, ones_few (suc place))

-- the one of a number is one
one_unique : (s : List ℕ) (at rank p q : ℕ) → OneAt s at rank p → OneAt s at rank q → p ≡ q
one_unique s at rank p q a b =
    let l : p < suc q = count_lt s at p (suc q) (omega (arith, a.below, b.below, b.set, below_suc s at q)) in
    let m : q < suc p = count_lt s at q (suc p) (omega (arith, a.below, a.set, b.below, below_suc s at p)) in
    omega arith

-- ---- what either form tells

pub record Stored (f : Form) (s : List ℕ) (g : Shape) : Type 0 where
  pub u_is : list_u s ≡ g.u
  pub n_is : list_n s ≡ g.n
  pub long : length (decode s) ≡ g.n
  pub within : list_u s ≤ limit
  pub rises : rising 0 (list_u s) (decode s) ≡ true
  pub run : RunIn s g
  pub bits_is : 0 < g.n → bits_of f (list_u s) (decode s) ≡ g.bits
  pub ranked : (i : ℕ) → i < g.n → OneAt s g.upper i (place_of f (list_u s) (decode s) i)

module _ (f : Form) (s : List ℕ) (g : Shape) (t : Stored f s g) where
  -- the element of a one is placed there
  pub placed_at : (place rank : ℕ) → OneAt s g.upper rank place → place_of f (list_u s) (decode s) rank ≡ place
  placed_at place rank a =
      one_unique s g.upper rank (place_of f (list_u s) (decode s) rank) place
      (t.ranked rank (one_number s g t.run place rank a)) a

  -- a place that lies behind no element at least b has only lesser ones before it
  pub before_place : (b p : ℕ) → Ahead f (list_u s) (decode s) b p → Before s b (ones_below s g.upper p)
  before_place b p a j h =
      elim (dec_lt (get_or (decode s) j 0) b) [
        | yes l ↦ l
        | no l ↦
            let n : j < g.n = omega (arith, ones_few s g t.run p) in
            let q : ℕ = place_of f (list_u s) (decode s) j in
            let m : p ≤ q = a j (rw t.long n) (omega arith) in
            let e : p + (q - p) ≡ q = omega arith in
            absurd (omega (arith, rw e at (ones_mono s g.upper p (q - p)), (t.ranked j n).below))
      ]

-- ---- a block in two runs

-- with elements, its width and the zeros before the bits of a bound
pub record Ruled (s : List ℕ) (g : Shape) : Type 0 where
  pub wide : width (list_u s) (length (decode s)) ≡ g.w
  pub place_is : (i : ℕ) → place_of two_runs (list_u s) (decode s) i ≡ get_or (decode s) i 0 / 2 ^ g.w + i
  pub zeros_is : (b : ℕ) → b < g.u → b / 2 ^ g.w + g.n ≤ g.bits

module _ (s : List ℕ) (a : list_refusal s ≡ Accepted) (some : 0 < list_n s) where
  ruled : Ruled s (shape_of (list_u s) (list_n s))
  unfolding place_of zeros
  ruled =
      let e = accepted_length s a in
      rw (shape_some (list_u s) (list_n s) some) (record {
        wide = ap (width (list_u s)) e;
        place_is = λ i. rw e;
        zeros_is = λ b h. omega (arith, shr_mono {a = b} {b = list_u s} (width (list_u s) (list_n s)) (omega arith));
      })

  runs_bits : bits_of two_runs (list_u s) (decode s) ≡ (shape_of (list_u s) (list_n s)).bits
  runs_bits =
      let e = accepted_length s a in
      let b = bits_are two_runs (list_u s) (decode s) (rw e some) in
      rw (shape_some (list_u s) (list_n s) some) (rw e at b)

  runs_ranked : (i : ℕ) → i < list_n s
      → OneAt s (shape_of (list_u s) (list_n s)).upper i (place_of two_runs (list_u s) (decode s) i)
  unfolding place_of
  runs_ranked i h =
      let e = accepted_length s a in
      let r = rank_of_element s a some i h in
      rw (shape_some (list_u s) (list_n s) some, e) (record { set = r.0; below = r.1 })

shape_some_bits : (U n : ℕ) → 0 < (shape_of U n).bits → 0 < n
shape_some_bits U n =
    elim (dec_lt 0 n) [
      | yes h ↦ λ _. h
      | no h ↦
          let e : n ≡ 0 = omega arith in
          rw (shape_none U n e) (λ l. absurd (omega arith))
    ]

-- ---- a block in either form

form_bits : (f : Form) (s : List ℕ) (g : Shape) → FormOpen f s g → 0 < g.n → bits_of f (list_u s) (decode s) ≡ g.bits
form_bits two_runs s g o h =
    rw o.1.shape (runs_bits s o.1.accepted (omega (arith, (form_reads two_runs s g o).n_is)))
form_bits bitmap s g o h = omega (
  arith,
  bits_are bitmap (list_u s) (decode s) (rw (form_length bitmap s g o) h),
  (map_reads s g o).bits_are,
  (form_reads bitmap s g o).u_is,
)

form_ranked : (f : Form) (s : List ℕ) (g : Shape) → FormOpen f s g → (i : ℕ) → i < list_n s
    → OneAt s g.upper i (place_of f (list_u s) (decode s) i)
unfolding place_of
form_ranked two_runs s g o i h = rw o.1.shape (runs_ranked s o.1.accepted (omega arith) i h)
form_ranked bitmap s g o i h =
    rw (map_reads s g o).starts (record { set = page_set s o.valid i h; below = page_rank s o.valid i h })

pub form_stored : (f : Form) (s : List ℕ) (g : Shape) → FormOpen f s g → Stored f s g
unfolding run_word
form_stored f s g o =
    let r = form_reads f s g o in
    let v = open_valid f s g o in
    record {
      u_is = sym r.u_is;
      n_is = sym r.n_is;
      long = form_length f s g o;
      within = omega (arith, r.u_is, r.within);
      rises = valid_rising f s v;
      run = record {
        whole = omega (arith, r.full);
        short = omega (arith, r.many, r.below, r.within);
        counted = r.counted;
        spare = r.spare;
        word_lt = λ k. be_at_lt 8 s (g.upper + 8 * k) (valid_bytes f s v);
      };
      bits_is = form_bits f s g o;
      ranked = λ i h. form_ranked f s g o i (omega (arith, r.n_is));
    }

-- ---- in two runs, by the names that callers know

module _ (s : List ℕ) (g : Shape) (o : Open s g) where
  pub open_two : form_at s ≡ two_runs
  open_two = valid_form two_runs s ((valid_alone s).1 o.accepted)

  pub open_stored : Stored two_runs s g
  open_stored = form_stored two_runs s g (open_two, o)

  pub open_run : RunIn s g
  open_run = open_stored.run

  pub open_U : list_u s ≡ g.u
  open_U = open_stored.u_is

  pub open_within : list_u s ≤ limit
  open_within = open_stored.within

  pub open_n : list_n s ≡ g.n
  open_n = open_stored.n_is

  pub open_length : length (decode s) ≡ g.n
  open_length = open_stored.long

  pub open_rising : rising 0 (list_u s) (decode s) ≡ true
  open_rising = open_stored.rises

  -- a run with bits has elements
  pub open_some : 0 < g.bits → 0 < g.n
  open_some h = omega (arith, open_n, shape_some_bits (list_u s) (list_n s) (rw o.shape at h))

  pub open_ruled : 0 < g.n → Ruled s g
  open_ruled h = rw o.shape (ruled s o.accepted (omega (arith, open_n)))

  -- the place after the zeros of b's high part has only lesser elements before it
  pub before_zeros : 0 < g.n → (b q : ℕ) → After (ones_below s g.upper) (b / 2 ^ g.w) q
      → Before s b (ones_below s g.upper q)
  before_zeros some b q a =
      before_place two_runs s g open_stored b q (λ j h l.
      after_le (ones_below s g.upper) (run_steps s g.upper) (b / 2 ^ g.w) q a
      (place_of two_runs (list_u s) (decode s) j)
      (omega (
        arith,
        shr_mono {a = b} {b = get_or (decode s) j 0} g.w l,
        (open_stored.ranked j (rw (← open_length) h)).below,
        (open_ruled some).place_is j,
      )))

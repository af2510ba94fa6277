-- What the shape of an open block tells in either form: U, n, its length, its run, and the numbers stored before that.
use mathlib.Core.Bool.{true}
use mathlib.Core.Path.{◌≡◌, refl, sym, ap, ◌∙◌}
use mathlib.Core.List.{List}
use Prim.Native.Nat.{ℕ, zero, suc, ◌+◌, ◌-◌, ◌*◌, ◌/◌, ◌^◌, ◌≤◌, ◌<◌}
use native.Mathlib.Decide.{dec_lt}
use native.Mathlib.Omega.{arith}
use borrow.Author.Tests.{ne_eqb}
use lib.ListN.{length, get_or}
use Rattle.rules.specs.Verdict.{Accepted}
use Rattle.rules.specs.Limits.{limit, map_version}
use Rattle.rules.specs.Bytes.{be_at}
use Rattle.rules.specs.Runs.{run_bit, words_for}
use Rattle.rules.specs.Counts.{ones_below}
use Rattle.rules.specs.List.{rising, map_at, map_size, Form, two_runs, bitmap}
use Rattle.rules.specs.ReadList.{list_u, list_n, form_at, decode, list_refusal}
use Rattle.laws.proofs.CountLaws.{below_none}
use Rattle.laws.proofs.RunLaws.{run_beyond, ones_whole}
use Rattle.listlaws.proofs.RefusalLaws.{framed_form, alone_framed}
use Rattle.maplaws.specs.Maps.{FormValid}
use Rattle.maplaws.proofs.Theorems.{valid_rising, valid_length, valid_form, valid_alone}
use Rattle.maplaws.proofs.MapReadLaws.{map_sound, page_at_lem}
use Rattle.shape.specs.declared.Shape.{Shape}
use Rattle.shape.specs.Shape.{map_width, map_shape, form_shape}
use Rattle.shape.proofs.ShapeLaws.{shape_u, shape_n}
use Rattle.readlaws.specs.Open.{Open, MapOpen, FormOpen, pointers_in, number_at, zeros_per, jump_from, Sought, RunOf}
use Rattle.readlaws.specs.Open.{JumpsIn, OneAt, PointerAt}
use Rattle.readlaws.proofs.ReadLaws.{open_reads, pointer_reads}

-- ---- opening

-- any version but that of a bitmap tells two runs
pub other_version : (s : List ℕ) → (get_or s 4 0 ≡ map_version → ⊥) → form_at s ≡ two_runs
unfolding form_at
other_version s h = rw (ne_eqb (get_or s 4 0) map_version h)

-- a valid block opens by the shape of its form
pub valid_opens : (f : Form) (s : List ℕ) (g : Shape) → FormValid f s → g ≡ form_shape f (list_u s) (list_n s)
    → FormOpen f s g
valid_opens two_runs s g a e = (valid_form two_runs s a, record { accepted = (valid_alone s).0 a; shape = e })
valid_opens bitmap s g a e = record { valid = a; shape = e }

pub open_form : (f : Form) (s : List ℕ) (g : Shape) → FormOpen f s g → form_at s ≡ f
open_form two_runs s g o = o.0
open_form bitmap s g o = valid_form bitmap s o.valid

-- the form is the one that the block's own version tells
pub own_valid : (f : Form) (s : List ℕ) → FormValid f s → FormValid (form_at s) s
own_valid f s a = rw (valid_form f s a) a

pub own_open : (f : Form) (s : List ℕ) (g : Shape) → FormOpen f s g → FormOpen (form_at s) s g
own_open f s g o = rw (open_form f s g o) o

-- a list alone is in two runs
module _ (s : List ℕ) (a : list_refusal s ≡ Accepted) where
  alone_form : form_at s ≡ two_runs
  alone_form = framed_form two_runs s (alone_framed s a).0

  pub alone_valid : FormValid (form_at s) s
  alone_valid = own_valid two_runs s ((valid_alone s).1 a)

  pub alone_opens : (g : Shape) → g ≡ form_shape (form_at s) (list_u s) (list_n s) → Open s g
  alone_opens g e = record { accepted = a; shape = rw alone_form at e }

pub runs_open : (s : List ℕ) (g : Shape) → Open s g → FormOpen (form_at s) s g
runs_open s g o = own_open two_runs s g (alone_form s o.accepted, o)

pub open_valid : (f : Form) (s : List ℕ) (g : Shape) → FormOpen f s g → FormValid f s
open_valid two_runs s g o = (valid_alone s).1 o.1.accepted
open_valid bitmap s g o = o.valid

pub open_shape : (f : Form) (s : List ℕ) (g : Shape) → FormOpen f s g → g ≡ form_shape f (list_u s) (list_n s)
open_shape two_runs s g o = o.1.shape
open_shape bitmap s g o = o.shape

-- ---- a bitmap

pub record MapReading (s : List ℕ) (g : Shape) : Type 0 where
  -- the layout
  pub wide : g.w ≡ map_width
  pub bits_are : g.bits ≡ g.u
  pub low : g.lower ≡ 13 + 4 * (g.u / 256)
  pub up : g.upper ≡ g.lower
  pub starts : g.upper ≡ map_at (list_u s)
  pub full : length s ≡ g.upper + 8 * words_for g.bits
  -- the bits
  pub counted : ones_below s g.upper g.bits ≡ g.n
  pub spare : (p : ℕ) → g.bits ≤ p → run_bit s g.upper p ≡ 0
  pub numbered : (q : ℕ) → 0 < q → q ≤ g.u / 256 → be_at 4 s (9 + 4 * q) ≡ ones_below s g.upper (256 * q)
  pub paged : (p rank : ℕ) → OneAt s g.upper rank p → get_or (decode s) rank 0 ≡ p

module _ (s : List ℕ) (g : Shape) (o : MapOpen s g) where
  abbrev U : ℕ
  U = list_u s

  abbrev at : ℕ
  at = map_at (list_u s)

  length_is : length s ≡ at + 8 * words_for U
  unfolding map_size
  length_is = o.valid.framed.length_is

  spare_is : (p : ℕ) → U ≤ p → run_bit s at p ≡ 0
  spare_is p h =
      elim (dec_lt p (64 * words_for U)) [
        | yes l ↦ (map_sound s o.valid).spare p h l
        | no l ↦ run_beyond s at p (omega (arith, length_is))
      ]

  paged_is : (p rank : ℕ) → OneAt s at rank p → get_or (decode s) rank 0 ≡ p
  paged_is p rank one =
      let l : p < U = elim (dec_lt p U) [
        | yes h ↦ h
        | no h ↦ absurd (omega (arith, one.set, spare_is p (omega arith)))
      ] in
      rw one.below at (page_at_lem s o.valid p l one.set)

  pub map_reads : MapReading s g
  unfolding map_shape map_at
  map_reads =
      let m = map_sound s o.valid in
      rw o.shape (record {
        wide = refl;
        bits_are = refl;
        low = refl;
        up = refl;
        starts = refl;
        full = length_is;
        counted = m.ones_are;
        spare = spare_is;
        numbered = m.numbers_are;
        paged = paged_is;
      })

-- ---- either form

pub record FormReading (s : List ℕ) (g : Shape) : Type 0 where
  pub u_is : g.u ≡ list_u s
  pub n_is : g.n ≡ list_n s
  pub full : length s ≡ g.upper + 8 * words_for g.bits
  pub ends : g.end ≡ length s
  pub below : g.n ≤ g.u
  pub within : g.u ≤ limit
  pub many : g.bits ≤ g.n + g.u
  -- the numbers stored, and the run behind them
  pub headed : 13 ≤ g.lower
  pub stored : 13 + 4 * pointers_in g ≤ g.upper
  pub few : pointers_in g ≤ 2 ^ 16
  pub counted : ones_below s g.upper g.bits ≡ g.n
  pub spare : (p : ℕ) → g.bits ≤ p → run_bit s g.upper p ≡ 0

pub form_reads : (f : Form) (s : List ℕ) (g : Shape) → FormOpen f s g → FormReading s g
unfolding map_shape
form_reads two_runs s g o =
    let r = open_reads s g o.1 in
    record {
      u_is = ap (λ (k : Shape). k.u) o.1.shape ∙ shape_u (list_u s) (list_n s);
      n_is = ap (λ (k : Shape). k.n) o.1.shape ∙ shape_n (list_u s) (list_n s);
      full = r.full;
      ends = r.ends;
      below = r.below;
      within = r.within;
      many = r.many;
      headed = omega (arith, r.low);
      stored = omega (arith, r.low, r.up);
      few = omega (arith, r.low, r.many, r.within);
      counted = r.counted;
      spare = r.spare;
    }
form_reads bitmap s g o =
    let r = map_reads s g o in
    let f = o.valid.framed in
    let u : g.u ≡ list_u s = ap (λ (k : Shape). k.u) o.shape in
    let n : g.n ≡ list_n s = ap (λ (k : Shape). k.n) o.shape in
    record {
      u_is = u;
      n_is = n;
      full = r.full;
      ends = ap (λ (k : Shape). k.end) o.shape ∙ sym f.length_is;
      below = omega (arith, u, n, f.below);
      within = omega (arith, u, f.within);
      many = omega (arith, r.bits_are);
      headed = omega (arith, r.low);
      stored = omega (arith, r.low, r.up);
      few = omega (arith, r.low, u, f.within);
      counted = r.counted;
      spare = r.spare;
    }

module _ (f : Form) (s : List ℕ) (g : Shape) (o : FormOpen f s g) where
  pub form_length : length (decode s) ≡ g.n
  form_length = valid_length f s (open_valid f s g o) ∙ sym (form_reads f s g o).n_is

  pub form_rising : rising 0 g.u (decode s) ≡ true
  form_rising = rw (form_reads f s g o).u_is (valid_rising f s (open_valid f s g o))

-- the width tells the form
pub wide_open : (f : Form) (s : List ℕ) (g : Shape) → FormOpen f s g → g.w ≡ map_width → MapOpen s g
wide_open two_runs s g o e = absurd (omega (arith, (open_reads s g o.1).narrow))
wide_open bitmap s g o e = o

pub narrow_open : (f : Form) (s : List ℕ) (g : Shape) → FormOpen f s g → (g.w ≡ map_width → ⊥) → Open s g
narrow_open two_runs s g o e = o.1
narrow_open bitmap s g o e = absurd (e (map_reads s g o).wide)

-- the run goes to the end of the block, and has a one for each element
pub form_run : (s : List ℕ) (g : Shape) → FormReading s g → RunOf s g.upper g.n
unfolding words_for
form_run s g r =
    let e : (length s - g.upper) / 8 ≡ words_for g.bits = omega (arith, r.full) in
    record {
      inside = omega (arith, r.full);
      short = omega (arith, r.full, r.below, r.within, r.many);
      total = rw e (ones_whole s g.upper g.bits (λ p l h. r.spare p l) ∙ r.counted);
    }

-- ---- the numbers stored before it

pub number_first : (s : List ℕ) → number_at s 0 ≡ 0
unfolding number_at
number_first s = refl

pub number_later : (s : List ℕ) (i : ℕ) → 0 < i → number_at s i ≡ be_at 4 s (9 + 4 * i)
unfolding number_at
number_later s zero h = absurd (omega arith)
number_later s (suc i) h = refl

-- as a pointer
pub number_points : (s : List ℕ) (g : Shape) → Open s g → (i : ℕ) → i ≤ pointers_in g → PointerAt s g i (number_at s i)
number_points s g o i l =
    pointer_reads s g o i (number_at s i) l (λ e. ap (number_at s) e ∙ number_first s) (number_later s i)

-- as a count
pub number_counts : (s : List ℕ) (g : Shape) → MapOpen s g → (i : ℕ) → i ≤ pointers_in g
    → ones_below s g.upper (256 * i) ≡ number_at s i
number_counts s g o i l =
    let r = map_reads s g o in
    elim (dec_lt 0 i) [
      | yes h ↦ sym (number_later s i h ∙ r.numbered i h (omega (arith, r.low)))
      | no h ↦
          let e : i ≡ 0 = omega arith in
          rw e (below_none s g.upper ∙ sym (number_first s))
    ]

form_jumps : (f : Form) (s : List ℕ) (g : Shape) → FormOpen f s g
    → JumpsIn s g.upper g.n (pointers_in g) (zeros_per f)
unfolding jump_from
form_jumps two_runs s g o =
    let e : (i : ℕ) → i ≤ pointers_in g → 256 * i + ones_below s g.upper (number_at s i) ≡ number_at s i =
    λ i l. (number_points s g o.1 i l).after.counted in
    record {
      run = form_run s g (form_reads two_runs s g o);
      zeros_before = λ i l. omega (arith, e i l);
      ones_before = λ i l. omega (arith, e i l);
    }
form_jumps bitmap s g o = record {
  run = form_run s g (form_reads bitmap s g o);
  zeros_before = λ i l. omega arith;
  ones_before = λ i l. omega (arith, number_counts s g o i l);
}

-- what a search for element number `rank` asks for
pub form_sought : (f : Form) (s : List ℕ) (g : Shape) → FormOpen f s g → (last rank : ℕ) → last ≡ pointers_in g
    → rank < g.n → Sought s last g.n (zeros_per f) rank × JumpsIn s g.upper g.n last (zeros_per f)
form_sought f s g o last rank e h =
    let r = form_reads f s g o in (
      record {
        compares = record {
          stored = omega (arith, r.stored, r.full);
          few = omega (arith, r.few);
          zeros_few = per_few f;
          small = omega (arith, r.below, r.within);
        };
        below = h;
      },
      rw e (form_jumps f s g o),
    )
  where
    per_few : (f : Form) → zeros_per f ≤ 256
    per_few two_runs = omega arith
    per_few bitmap = omega arith

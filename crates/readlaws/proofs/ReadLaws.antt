-- What an accepted block's shape tells of its bytes, for a block without elements too:
-- layout, bounds, counts, pointers, elements.
use mathlib.Core.Path.{◌≡◌, refl, sym, ap, ◌∙◌}
use mathlib.Core.List.{List}
use Prim.Native.Nat.{ℕ, suc, ◌+◌, ◌-◌, ◌*◌, ◌/◌, ◌%◌, ◌^◌, ◌≤◌, ◌<◌}
use native.Mathlib.Nat.{div-mul-le_self, le_trans, lt_of_lt_of_le, mul-le-mul_right, mod-eq_of_lt}
use native.Mathlib.Decide.{dec_lt}
use native.Mathlib.Omega.{arith}
use lib.ListN.{length, get_or}
use lib.Pow.{pow_mono}
use Rattle.rules.specs.Verdict.{Accepted}
use Rattle.rules.specs.Limits.{limit}
use Rattle.rules.specs.Bytes.{be_at}
use Rattle.rules.specs.Runs.{bit, run_bit, field, words_for}
use Rattle.rules.specs.Counts.{ones_below}
use Rattle.rules.specs.List.{width, zeros, upper, after_zero, pointer, lower_at, upper_at, size, two_runs}
use Rattle.rules.specs.ReadList.{list_u, list_n, decode, list_refusal}
use Rattle.laws.proofs.CountLaws.{below_none, below_suc, ones_slow, ones_below_le, run_steps}
use Rattle.laws.proofs.RunLaws.{run_beyond, field_lt, ones_mono}
use Rattle.shape.specs.declared.Shape.{Shape}
use Rattle.shape.specs.Shape.{shape_of}
use Rattle.shape.proofs.ShapeLaws.{shape_none, shape_some, bounded}
use Rattle.listlaws.specs.Sound.{After, Framed}
use Rattle.listlaws.proofs.AfterLaws.{run_after, after_le, after_unique}
use Rattle.listlaws.proofs.BlockLaws.{size_is, size_none}
use Rattle.listlaws.proofs.ElementLaws.{upper_agrees}
use Rattle.listlaws.proofs.RefusalLaws.{framed_form, decode_runs, alone_framed}
use Rattle.listlaws.proofs.ValidLaws.{read_is, field_in}
use Rattle.listlaws.proofs.ReadLaws.{accepted_sound, ones_total, pointer_after, element_of_rank}
use Rattle.readlaws.specs.Open.{Open, pointers_in, PointerAt, OneAt}

-- ---- an accepted block

pub record Reading (s : List ℕ) (g : Shape) : Type 0 where
  -- the layout
  pub low : g.lower ≡ 13 + 4 * ((g.bits - g.n) / 256)
  pub up : g.upper ≡ g.lower + 8 * words_for (g.n * g.w)
  pub full : length s ≡ g.upper + 8 * words_for g.bits
  pub ends : g.end ≡ length s
  -- bounds
  pub below : g.n ≤ g.u
  pub within : g.u ≤ limit
  pub narrow : g.w ≤ 24
  pub few : g.n ≤ g.bits
  pub many : g.bits ≤ g.n + g.u
  pub short : g.n * g.w ≤ g.u
  pub high : (g.bits - g.n) * 2 ^ g.w ≤ g.u
  -- the runs
  pub counted : ones_below s g.upper g.bits ≡ g.n
  pub spare : (p : ℕ) → g.bits ≤ p → run_bit s g.upper p ≡ 0
  pub agrees : (p : ℕ) → p < g.bits → run_bit s g.upper p ≡ bit (upper g.w 0 (decode s)) p
  pub pointed : (q : ℕ) → 0 < q → q ≤ (g.bits - g.n) / 256
      → After (ones_below s g.upper) (256 * q) (be_at 4 s (9 + 4 * q))
  valued : (h i : ℕ) → i < g.n → ones_below s g.upper (h + i) ≡ i → run_bit s g.upper (h + i) ≡ 1
      → get_or (decode s) i 0 ≡ h * 2 ^ g.w + field s g.lower (i * g.w) g.w

-- the one of element number `rank` stands at `place`
pub record Ranked (s : List ℕ) (g : Shape) (place rank : ℕ) : Type 0 where
  pub inside : place < g.bits
  pub behind : rank ≤ place
  pub number : rank < g.n
  pub high : (place - rank) * 2 ^ g.w ≤ g.u
  -- `(place - rank) << w`
  pub shifted : (place - rank) * 2 ^ g.w % 2 ^ 64 ≡ (place - rank) * 2 ^ g.w
  pub value : get_or (decode s) rank 0 ≡ (place - rank) * 2 ^ g.w + field s g.lower (rank * g.w) g.w

module _ (s : List ℕ) (a : list_refusal s ≡ Accepted) where
  abbrev U : ℕ
  U = list_u s

  abbrev n : ℕ
  n = list_n s

  framed : Framed s
  framed = (alone_framed s a).0

  module _ (some : 0 < list_n s) where
    abbrev w : ℕ
    w = width (list_u s) (list_n s)

    zeros_left : n + zeros U w - n ≡ zeros U w
    zeros_left = omega arith

    spare_some : (p : ℕ) → n + zeros U w ≤ p → run_bit s (upper_at U n w) p ≡ 0
    spare_some p h =
        let e = framed.length_is ∙ size_is U n some in
        elim (dec_lt p (64 * words_for (n + zeros U w))) [
          | yes l ↦ (accepted_sound s a some).upper_spare p h l
          | no l ↦ run_beyond s (upper_at U n w) p (omega (arith, e))
        ]

    agrees_some : (p : ℕ) → p < n + zeros U w → run_bit s (upper_at U n w) p ≡ bit (upper w 0 (decode s)) p
    agrees_some p h =
        let e = ap (λ (l : List ℕ). bit (upper w 0 l) p)
        (decode_runs s (framed_form two_runs s framed) ∙ read_is s U n some) in
        upper_agrees s (upper_at U n w) (lower_at U w) w (n + zeros U w) p h ∙ sym e

    reading_some : Reading s (shape_of (list_u s) (list_n s))
    unfolding lower_at upper_at zeros
    reading_some =
        let b = bounded U n some framed.below framed.within in
        rw (shape_some U n some) (record {
          low = rw zeros_left;
          up = refl;
          full = framed.length_is ∙ size_is U n some;
          ends = sym framed.length_is;
          below = framed.below;
          within = framed.within;
          narrow = b.narrow;
          few = omega arith;
          many = omega (arith, b.few);
          short = b.short;
          high = rw zeros_left (div-mul-le_self U (2 ^ w));
          counted = ones_total s a some;
          spare = spare_some;
          agrees = agrees_some;
          pointed = λ q g h. pointer_after s a some q g (rw zeros_left at h);
          valued = element_of_rank s a some;
        })

  reading_none : list_n s ≡ 0 → Reading s (shape_of (list_u s) (list_n s))
  unfolding words_for
  reading_none z =
      let e = framed.length_is ∙ ap (size U) z ∙ size_none U in
      rw (shape_none U n z) (record {
        low = omega arith;
        up = omega arith;
        full = omega (arith, e);
        ends = omega (arith, e);
        below = framed.below;
        within = framed.within;
        narrow = omega arith;
        few = omega arith;
        many = omega arith;
        short = omega arith;
        high = omega arith;
        counted = below_none s 13 ∙ sym z;
        spare = λ p h. run_beyond s 13 p (omega (arith, e));
        agrees = λ p h. absurd (omega arith);
        pointed = λ q g h. absurd (omega arith);
        valued = λ h i l. absurd (omega arith);
      })

-- an open block reads as its shape says
pub open_reads : (s : List ℕ) (g : Shape) → Open s g → Reading s g
open_reads s g o =
    rw o.shape (elim (dec_lt 0 (list_n s)) [
      | yes h ↦ reading_some s o.accepted h
      | no h ↦ reading_none s o.accepted (omega arith)
    ])

module _ (s : List ℕ) (g : Shape) (o : Open s g) where
  abbrev below : ℕ → ℕ
  below p = ones_below s g.upper p

  read : Reading s g
  read = open_reads s g o

  -- ---- pointers

  pub pointers_few : pointers_in g ≤ 2 ^ 16
  pointers_few = omega (arith, read.low, read.many, read.within)

  after_first : (r : ℕ) → r ≡ 0 → After (ones_below s g.upper) 0 r
  after_first r e = rw e (record {
    counted = ap (λ (k : ℕ). 0 + k) (below_none s g.upper);
    zero_last = λ j h. absurd (omega arith);
  })

  -- what is stored as pointer number i is that pointer, and number 0 is the run's start
  pub pointer_reads : (i r : ℕ) → i ≤ pointers_in g → (i ≡ 0 → r ≡ 0) → (0 < i → r ≡ be_at 4 s (9 + 4 * i))
      → PointerAt s g i r
  unfolding pointer
  pointer_reads i r l first next =
      let u : ℕ = upper g.w 0 (decode s) in
      let q : ℕ = after_zero g.bits u (256 * i) 0 in
      let room : 256 * i + below g.bits ≤ g.bits = omega (arith, read.low, read.counted, read.few) in
      let a : After (ones_below s g.upper) (256 * i) r =
      elim (dec_lt 0 i) [
        | yes h ↦ rw (next h) (read.pointed i h (omega (arith, read.low)))
        | no h ↦
            let e : i ≡ 0 = omega arith in
            rw e (after_first r (first e))
      ] in
      record {
        stored = next;
        after = a;
        inside = after_le below (run_steps s g.upper) (256 * i) r a g.bits room;
        defined = after_unique below (run_steps s g.upper) (256 * i) r q a
            (run_after s g.upper u g.bits (256 * i) read.agrees room);
      }

  -- ---- the low part of element number i

  module _ (i : ℕ) (lt : i < g.n) where
    pub low_inside : i * g.w + g.w ≤ g.n * g.w
    low_inside = field_in g.n g.w i lt

    pub low_small : field s g.lower (i * g.w) g.w < 2 ^ 24
    low_small = lt_of_lt_of_le (field_lt s g.lower (i * g.w) g.w) (pow_mono read.narrow)

  -- ---- the one of element number `rank`

  module _ (place rank : ℕ) (one : OneAt s g.upper rank place) where
    place_lt_bits : place < g.bits
    place_lt_bits = elim (dec_lt place g.bits) [
      | yes h ↦ h
      | no h ↦ absurd (omega (arith, one.set, read.spare place (omega arith)))
    ]

    rank_le : rank ≤ place
    rank_le = omega (arith, one.below, ones_below_le s g.upper place)

    rank_lt : rank < g.n
    rank_lt =
        let e : suc place + (g.bits - suc place) ≡ g.bits = omega (arith, place_lt_bits) in
        omega (
          arith,
          rw e at (ones_mono s g.upper (suc place) (g.bits - suc place)),
          below_suc s g.upper place,
          one.set,
          one.below,
          read.counted,
        )

    -- its zeros are among those of the run
    zeros_le : place - rank ≤ g.bits - g.n
    zeros_le =
        let e : place + (g.bits - place) ≡ g.bits = omega (arith, place_lt_bits) in
        omega (
          arith,
          rw e at (ones_slow s g.upper place (g.bits - place)),
          one.below,
          read.counted,
          rank_le,
          place_lt_bits,
          read.few,
        )

    high_le : (place - rank) * 2 ^ g.w ≤ g.u
    high_le = le_trans (mul-le-mul_right (2 ^ g.w) zeros_le) read.high

    pub one_ranks : Ranked s g place rank
    one_ranks =
        let e : place - rank + rank ≡ place = omega (arith, rank_le) in
        record {
          inside = place_lt_bits;
          behind = rank_le;
          number = rank_lt;
          high = high_le;
          shifted = mod-eq_of_lt (omega (arith, high_le, read.within));
          value = read.valued (place - rank) rank rank_lt (rw e one.below) (rw e one.set);
        }

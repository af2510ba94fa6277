-- Laws of the layout that an accepted announcement gives: its lists, their places, and that each fits into its part.
use mathlib.Core.Path.{◌≡◌, refl, ap, ◌∙◌}
use mathlib.Core.List.{List}
use Prim.Native.Nat.{ℕ, ◌+◌, ◌-◌, ◌^◌, ◌≤◌, ◌<◌}
use native.Mathlib.Omega.{arith}
use lib.ListN.{length, replicate, length-replicate}
use Rattle.rules.specs.Verdict.{Accepted}
use Rattle.rules.specs.Limits.{limit}
use Rattle.rules.specs.Runs.{words_for}
use Rattle.rules.specs.List.{map_at, map_size, Form, two_runs, bitmap, form_of, form_size}
use Rattle.rules.specs.Stream.{announce_refusal, counts_at, positions_at, stream_size}
use Rattle.shape.specs.declared.Shape.{Shape}
use Rattle.shape.specs.Shape.{shape_of, form_shape}
use Rattle.shape.proofs.ShapeLaws.{shape_end, form_shape_end}
use Rattle.filllaws.specs.Filling.{FittingAs, Fitting}
use Rattle.filllaws.proofs.SideLaws.{sides, header_fits}
use Rattle.filllaws.proofs.WriteLaws.{u_of, n_of, end_of, shape_of_lem, fitting_of}
use Rattle.sessionlaws.specs.declared.Layout.{Layout}
use Rattle.sessionlaws.specs.Session.{Announced}
use Rattle.sessionlaws.specs.Layout.{layout_of, Announcing, Housed}
use Rattle.sessionlaws.proofs.AnnounceLaws.{announced_parts}

-- ---- how long a list's block is

module _ (o : Form) (U n : ℕ) (below : n ≤ U) (within : U ≤ limit) where
  abbrev shape : Shape
  shape = form_shape o U n

  abbrev bytes : List ℕ
  bytes = replicate (form_size o U n) 0

  fits : FittingAs o shape bytes
  fits =
      fitting_of o U n shape refl bytes below within
      (omega (arith, form_shape_end o U n, length-replicate {A = ℕ} (form_size o U n) 0))

  pub size_header : 13 ≤ form_size o U n
  size_header = omega (arith, header_fits shape bytes fits, form_shape_end o U n)

pub size_small : (o : Form) (U n : ℕ) → n ≤ U → U ≤ limit → form_size o U n < 2 ^ 24
unfolding words_for map_size map_at
size_small two_runs U n below within =
    let t = sides (shape_of U n) (bytes two_runs U n below within) (fits two_runs U n below within) in
    omega (arith, shape_end U n, t.lower, t.upper, t.end, t.few, t.short, t.many)
size_small bitmap U n below within = omega arith

-- ---- the layout of an announcement

module _ (v N P Q U : ℕ) (a : Announced N P Q U) where
  pub stream_small : stream_size v N P Q U < 2 ^ 32
  unfolding stream_size positions_at counts_at
  stream_small = omega (
    arith,
    size_small (form_of v N P) N P a.pages a.within,
    size_small two_runs Q P a.counts (omega (arith, a.positions, a.reach)),
    size_small two_runs U Q a.positions a.reach,
  )

  module _ (g : Layout) (e : g ≡ layout_of v N P Q U) where
    -- its lists
    pub pages_are : g.pages ≡ form_shape (form_of v N P) N P
    unfolding layout_of
    pages_are = ap (λ h. h.pages) e

    pub counts_are : g.counts ≡ shape_of Q P
    unfolding layout_of
    counts_are = ap (λ h. h.counts) e

    pub positions_are : g.positions ≡ shape_of U Q
    unfolding layout_of
    positions_are = ap (λ h. h.positions) e

    -- the announcement again
    pub layout_tells : (g.pages.u ≡ N) × (g.pages.n ≡ P) × (g.positions.n ≡ Q) × (g.positions.u ≡ U)
    layout_tells = (
      u_of (form_of v N P) N P g.pages pages_are,
      n_of (form_of v N P) N P g.pages pages_are,
      n_of two_runs U Q g.positions positions_are,
      u_of two_runs U Q g.positions positions_are,
    )

    -- the counts are as many as the pages, and below the positions' number
    pub counts_tell : (g.counts.u ≡ Q) × (g.counts.n ≡ P)
    counts_tell = (u_of two_runs Q P g.counts counts_are, n_of two_runs Q P g.counts counts_are)

    -- where they start, and where the block ends
    pub second_is : g.second ≡ counts_at v N P
    unfolding layout_of
    second_is = ap (λ h. h.second) e

    pub third_is : g.third ≡ positions_at v N P Q
    unfolding layout_of
    third_is = ap (λ h. h.third) e

    pub size_is : g.size ≡ stream_size v N P Q U
    unfolding layout_of
    size_is = ap (λ h. h.size) e

    pub second_end : g.second ≡ 5 + g.pages.end
    unfolding counts_at
    second_end = second_is ∙ omega (arith, end_of (form_of v N P) N P g.pages pages_are)

    pub third_end : g.third ≡ g.second + g.counts.end
    unfolding positions_at
    third_end = third_is ∙ omega (arith, second_is, end_of two_runs Q P g.counts counts_are)

    pub size_end : g.size ≡ g.third + g.positions.end
    unfolding stream_size
    size_end = size_is ∙ omega (arith, third_is, end_of two_runs U Q g.positions positions_are)

    -- each is a shape that fits into a part long enough
    pub pages_fit : (r : List ℕ) → g.pages.end ≤ length r → FittingAs (form_of v N P) g.pages r
    pages_fit r l = fitting_of (form_of v N P) N P g.pages pages_are r a.pages a.within l

    pub counts_fit : (r : List ℕ) → g.counts.end ≤ length r → Fitting g.counts r
    counts_fit r l =
        fitting_of two_runs Q P g.counts counts_are r a.counts (omega (arith, a.positions, a.reach)) l

    pub positions_fit : (r : List ℕ) → g.positions.end ≤ length r → Fitting g.positions r
    positions_fit r l = fitting_of two_runs U Q g.positions positions_are r a.positions a.reach l

-- made of the three shapes
module _ (v N P Q U : ℕ) (p c q : Shape) (e : p ≡ form_shape (form_of v N P) N P) (f : c ≡ shape_of Q P)
    (h : q ≡ shape_of U Q) where
  pub layout_made : record {
    pages = p;
    counts = c;
    positions = q;
    second = 5 + p.end;
    third = 5 + p.end + c.end;
    size = 5 + p.end + c.end + q.end;
  } ≡ layout_of v N P Q U
  unfolding layout_of stream_size positions_at counts_at
  layout_made = rw (e, f, h, form_shape_end (form_of v N P) N P, shape_end Q P, shape_end U Q)

  ends_small : Announced N P Q U → 5 + p.end + c.end + q.end < 2 ^ 32
  unfolding stream_size positions_at counts_at
  ends_small a = omega (
    arith,
    stream_small v N P Q U a,
    end_of (form_of v N P) N P p e,
    end_of two_runs Q P c f,
    end_of two_runs U Q q h,
  )

-- of an accepted announcement
pub announcing : (v N P Q U : ℕ) → announce_refusal v N P Q U ≡ Accepted → {p c q : Shape}
    → p ≡ form_shape (form_of v N P) N P → c ≡ shape_of Q P → q ≡ shape_of U Q → Announcing p c q
announcing v N P Q U a e f h = record {
  version = v;
  n = N;
  pages = P;
  positions = Q;
  u = U;
  paged = e;
  counted = f;
  placed = h;
  accepts = a;
}

pub announcing_small : {p c q : Shape} → Announcing p c q → 5 + p.end + c.end + q.end < 2 ^ 32
announcing_small {p} {c} {q} a =
    ends_small a.version a.n a.pages a.positions a.u p c q a.paged a.counted a.placed
    (announced_parts a.version a.n a.pages a.positions a.u a.accepts)

-- ---- a layout in a room that holds its block

alike : (v N M P O Q R U Y : ℕ) → M ≡ N → O ≡ P → R ≡ Q → Y ≡ U → layout_of v N P Q U ≡ layout_of v M O R Y
alike v N M P O Q R U Y a b c d = rw (a, b, c, d)

pub housed : (v N P Q U : ℕ) → announce_refusal v N P Q U ≡ Accepted → (g : Layout) → g ≡ layout_of v N P Q U
    → (room : List ℕ) → g.size ≤ length room → Housed v g room
housed v N P Q U r g e room l =
    let a = announced_parts v N P Q U r in
    let (n, p, q, u) = layout_tells v N P Q U a g e in
    record {
      shape = e ∙ alike v N g.pages.u P g.pages.n Q g.positions.n U g.positions.u n p q u;
      accepts = rw (n, p, q, u) r;
      fits = l;
    }

-- the lists fit into the parts that start at their places, and the counts are below the positions' number
module _ {v : ℕ} {g : Layout} {room : List ℕ} (h : Housed v g room) where
  abbrev N : ℕ
  N = g.pages.u

  abbrev P : ℕ
  P = g.pages.n

  abbrev Q : ℕ
  Q = g.positions.n

  abbrev U : ℕ
  U = g.positions.u

  pub house_announced : Announced g.pages.u g.pages.n g.positions.n g.positions.u
  house_announced = announced_parts v N P Q U h.accepts

  pub house_places : (g.second ≡ 5 + g.pages.end) × (g.third ≡ g.second + g.counts.end)
      × (g.size ≡ g.third + g.positions.end)
  house_places = (
    second_end v N P Q U house_announced g h.shape,
    third_end v N P Q U house_announced g h.shape,
    size_end v N P Q U house_announced g h.shape,
  )

  -- its three shapes
  pub house_shapes : (g.pages ≡ form_shape (form_of v g.pages.u g.pages.n) g.pages.u g.pages.n)
      × (g.counts ≡ shape_of g.counts.u g.counts.n)
      × (g.positions ≡ shape_of g.positions.u g.positions.n)
  house_shapes = (
    pages_are v N P Q U house_announced g h.shape,
    shape_of_lem two_runs Q P g.counts (counts_are v N P Q U house_announced g h.shape),
    positions_are v N P Q U house_announced g h.shape,
  )

  pub house_pages : (r : List ℕ) → length r ≡ length room - 5
      → FittingAs (form_of v g.pages.u g.pages.n) g.pages r
  house_pages r l =
      let p = house_places in
      pages_fit v N P Q U house_announced g h.shape r (omega (arith, h.fits))

  pub house_counts : (r : List ℕ) → length r ≡ length room - g.second → Fitting g.counts r
  house_counts r l =
      let p = house_places in
      counts_fit v N P Q U house_announced g h.shape r (omega (arith, h.fits))

  pub house_positions : (r : List ℕ) → length r ≡ length room - g.third → Fitting g.positions r
  house_positions r l =
      let p = house_places in
      positions_fit v N P Q U house_announced g h.shape r (omega (arith, h.fits))

-- The rank of an element of a list, as the list's form tells it.
use mathlib.Core.Path.{◌≡◌, refl, sym, ◌∙◌}
use mathlib.Core.List.{List}
use Prim.Native.Nat.{ℕ, ◌-◌, ◌/◌, ◌^◌, ◌≤◌, ◌<◌}
use native.Mathlib.Omega.{arith}
use lib.ListN.{length, get_or}
use Rattle.rules.specs.Counts.{ones_below}
use Rattle.rules.specs.List.{Form, two_runs, bitmap, map_at}
use Rattle.rules.specs.ReadList.{list_u, decode}
use Rattle.rules.specs.Seek.{place_of}
use Rattle.rules.specs.Plain.{below}
use Rattle.seeklaws.proofs.FirstLaws.{rising_below, first_at_self, below_first}
use Rattle.maplaws.proofs.MapReadLaws.{page_rank}
use Rattle.shape.specs.declared.Shape.{Shape}
use Rattle.shape.specs.Shape.{map_width}
use Rattle.readlaws.specs.Open.{FormOpen, MapOpen}
use Rattle.readlaws.proofs.ReadLaws.{open_reads}
use Rattle.readlaws.proofs.FormLaws.{map_reads, wide_open, narrow_open}
use Rattle.walklaws.proofs.OpenLaws.{form_stored, open_ruled}
use Rattle.querylaws.specs.Lists.{number_of, part_at, form_in, shape_in, pages_at}
use Rattle.querylaws.specs.Ranks.{rank_of, OnElement}

-- ---- element number i of a list in either form

module _ (f : Form) (s : List ℕ) (g : Shape) (o : FormOpen f s g) (i : ℕ) (h : i < length (decode s)) where
  -- it is below the bound
  page_inside : get_or (decode s) i 0 < g.u
  page_inside =
      let t = form_stored f s g o in
      omega (arith, rising_below 0 (list_u s) (decode s) t.rises i h, t.u_is)

  -- as many elements are below it
  below_page : below (get_or (decode s) i 0) (decode s) ≡ i
  below_page =
      let r = (form_stored f s g o).rises in
      below_first (get_or (decode s) i 0) 0 (list_u s) (decode s) r ∙ first_at_self 0 (list_u s) (decode s) r i h

  -- a bitmap has as many ones below the page's
  map_ranked : g.w ≡ map_width
      → ones_below s (map_at (list_u s)) (get_or (decode s) i 0) ≡ below (get_or (decode s) i 0) (decode s)
  map_ranked w =
      let t = form_stored f s g o in
      page_rank s (wide_open f s g o w).valid i (omega (arith, h, t.long, t.n_is)) ∙ sym below_page

-- two runs, which their width tells, have the zeros before the page's bit
runs_ranked : (f : Form) (s : List ℕ) (g : Shape) → FormOpen f s g → (i : ℕ) → i < length (decode s)
    → (g.w ≡ map_width → ⊥) → (b : ℕ) → b ≡ place_of f (list_u s) (decode s) i
    → (get_or (decode s) i 0 / 2 ^ g.w ≤ b)
    × (b - get_or (decode s) i 0 / 2 ^ g.w ≡ below (get_or (decode s) i 0) (decode s))
runs_ranked bitmap s g o i h w b e = absurd (w (map_reads s g o).wide)
runs_ranked two_runs s g o i h w b e =
    let t = form_stored two_runs s g o in
    let r = open_ruled s g o.1 (omega (arith, h, t.long)) in
    let p = below_page two_runs s g o i h in
    (omega (arith, e, r.place_is i), rw p (omega (arith, e, r.place_is i)))

-- ---- of a query's lists

module _ (s sh : List ℕ) (i m b : ℕ) (e : OnElement s sh i m b) where
  abbrev form : Form
  form = form_in s sh i

  abbrev part : List ℕ
  part = part_at s sh i

  abbrev shape : Shape
  shape = shape_in sh i

  inside_own : e.number < length (decode part)
  unfolding pages_at
  inside_own = e.inside

  page_is : m - 1 ≡ get_or (decode part) e.number 0
  unfolding pages_at
  page_is = omega (arith, e.marked)

  placed_own : b ≡ place_of form (list_u part) (decode part) e.number
  unfolding pages_at
  placed_own = rw e.list.bound e.placed

  rank_own : below (m - 1) (decode part) ≡ rank_of s sh i m
  unfolding rank_of pages_at
  rank_own = refl

  pub rank_opens : number_of sh i 3 ≡ map_width → MapOpen (part_at s sh i) (shape_in sh i) × (m - 1 < (shape_in sh i).u)
  unfolding shape_in
  rank_opens w = (
    wide_open form part shape e.list.opened w,
    rw page_is (page_inside form part shape e.list.opened e.number inside_own),
  )

  pub rank_map : number_of sh i 3 ≡ map_width
      → ones_below (part_at s sh i) (map_at (list_u (part_at s sh i))) (m - 1) ≡ rank_of s sh i m
  unfolding shape_in
  rank_map w = rw (← page_is) at (map_ranked form part shape e.list.opened e.number inside_own w) ∙ rank_own

  pub rank_narrow : (number_of sh i 3 ≡ map_width → ⊥) → number_of sh i 3 < 64
  unfolding shape_in
  rank_narrow w = omega (arith, (open_reads part shape (narrow_open form part shape e.list.opened w)).narrow)

  pub rank_runs : (number_of sh i 3 ≡ map_width → ⊥)
      → ((m - 1) / 2 ^ number_of sh i 3 ≤ b) × (b - (m - 1) / 2 ^ number_of sh i 3 ≡ rank_of s sh i m)
  unfolding shape_in
  rank_runs w =
      let r = runs_ranked form part shape e.list.opened e.number inside_own w b placed_own in
      (rw page_is r.0, rw (← page_is) at r.1 ∙ rank_own)

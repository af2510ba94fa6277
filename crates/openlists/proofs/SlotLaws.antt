-- Laws of the numbers of lists in their slots: that they are narrow, and that with each slot filled the lists stand lead first.
use mathlib.Core.Path.{◌≡◌, refl, sym, ap, ◌∙◌}
use mathlib.Core.List.{List, ◌++◌}
use Prim.Native.Nat.{ℕ, ◌+◌, ◌-◌, ◌*◌, ◌^◌, ◌≤◌, ◌<◌}
use native.Mathlib.Decide.{ℕ_discrete}
use native.Mathlib.Omega.{arith}
use lib.ListN.{length, get_or, take, drop, length-drop, length-append, get_or-append}
use lib.Seq.{paste, length-paste, length-take-le, get_or-take, get_or-append-add}
use Rattle.rules.specs.Common.{lead_of}
use Rattle.rules.specs.Runs.{words_for}
use Rattle.shape.specs.declared.Shape.{Shape}
use Rattle.rules.specs.List.{Form, two_runs, bitmap}
use Rattle.rules.specs.ReadList.{list_u, list_n, form_at, decode}
use Rattle.shape.specs.Shape.{form_shape}
use Rattle.shape.proofs.ShapeLaws.{form_shape_u}
use Rattle.maplaws.specs.Maps.{FormValid}
use Rattle.readlaws.specs.Open.{FormOpen}
use Rattle.readlaws.proofs.FormLaws.{valid_opens, form_reads, map_reads}
use Rattle.readlaws.proofs.ReadLaws.{open_reads}
use Rattle.querylaws.specs.Lists.{number_of, part_at, form_in, shape_in, pages_at, pages_in, bound_in, ListAt}
use Rattle.querylaws.proofs.SpanLaws.{span_same}
use Rattle.openlists.specs.Places.{from_of, to_of, place_part, place_pages, placed_in, shape_at, numbers_at, source_of}
use Rattle.openlists.specs.Places.{PlaceOk, Places, Alike, Slots, Opened}
use Rattle.openlists.proofs.SourceLaws.{source_lt, source_order}

pub record Narrow (g : Shape) : Type 0 where
  pub u_fits : g.u < 2 ^ 32
  pub n_fits : g.n < 2 ^ 32
  pub w_fits : g.w < 2 ^ 32
  pub bits_fit : g.bits < 2 ^ 32
  pub lower_fits : g.lower < 2 ^ 32
  pub upper_fits : g.upper < 2 ^ 32

pub open_narrow : (f : Form) (s : List ℕ) (g : Shape) → FormOpen f s g → Narrow g
unfolding words_for
open_narrow two_runs s g o =
    let r = open_reads s g o.1 in record {
      u_fits = omega (arith, r.within);
      n_fits = omega (arith, r.within, r.below);
      w_fits = omega (arith, r.narrow);
      bits_fit = omega (arith, r.within, r.below, r.many);
      lower_fits = omega (arith, r.low, r.within, r.below, r.many);
      upper_fits = omega (arith, r.up, r.short, r.low, r.within, r.below, r.many);
    }
open_narrow bitmap s g o =
    let r = form_reads bitmap s g o in
    let m = map_reads s g o in record {
      u_fits = omega (arith, r.within);
      n_fits = omega (arith, r.within, r.below);
      w_fits = omega (arith, m.wide);
      bits_fit = omega (arith, r.within, r.below, r.many);
      lower_fits = omega (arith, m.low, r.within);
      upper_fits = omega (arith, m.up, m.low, r.within);
    }

-- a valid block's shape ends where the block does
pub shape_ends : (f : Form) (s : List ℕ) → FormValid f s → length s ≡ (form_shape f (list_u s) (list_n s)).end
shape_ends f s a = sym (form_reads f s (form_shape f (list_u s) (list_n s))
    (valid_opens f s (form_shape f (list_u s) (list_n s)) a refl)).ends

-- ---- numbers put into a slot

module _ (d ns : List ℕ) (at n : ℕ) (room : at + n ≤ length d) (some : n ≤ length ns) where
  head_length : length (take at d) ≡ at
  head_length = length-take-le at d (omega arith)

  pub paste_in : (j : ℕ) → j < n → get_or (paste d at ns n) (at + j) 0 ≡ get_or ns j 0
  paste_in j h =
      let l : at + j < length (take at d ++ take n ns) =
      omega (arith, head_length, length-append (take at d) (take n ns), length-take-le n ns some) in
      get_or-append (take at d ++ take n ns) (drop (at + n) d) 0 (at + j) l
      ∙ rw head_length at (get_or-append-add (take at d) (take n ns) j 0)
      ∙ get_or-take n ns j 0 h

  pub paste_before : (j : ℕ) → j < at → get_or (paste d at ns n) j 0 ≡ get_or d j 0
  paste_before j h =
      let l : j < length (take at d ++ take n ns) = omega (arith, head_length, length-append (take at d) (take n ns)) in
      let m : j < length (take at d) = omega (arith, head_length) in
      get_or-append (take at d ++ take n ns) (drop (at + n) d) 0 j l
      ∙ get_or-append (take at d) (take n ns) 0 j m ∙ get_or-take at d j 0 h

module _ (s ps : List ℕ) (lead : ℕ) where
  pub slots_more : (r : List ℕ) (t : ℕ) → t < 8 → Slots s ps lead t r
      → Slots s ps lead (t + 1) (paste r (8 * t) (numbers_at s ps (source_of lead t)) 8)
  slots_more r t h k = record {
    room = length-paste r (8 * t) ns 8 (omega (arith, k.room)) (omega arith) ∙ k.room;
    slot = λ i j l m. elim (ℕ_discrete i t) [
      | yes e ↦
          ap (λ (x : ℕ). number_of (paste r (8 * t) ns 8) x j) e
          ∙ paste_in r ns (8 * t) 8 (omega (arith, k.room)) (omega arith) j m
          ∙ ap (λ (x : ℕ). get_or (numbers_at s ps (source_of lead x)) j 0) (sym e)
      | no e ↦ paste_before r ns (8 * t) 8 (omega (arith, k.room)) (omega arith) (8 * i + j) (omega arith)
          ∙ k.slot i j (omega arith) m
    ];
  }
    where
      ns : List ℕ
      ns = numbers_at s ps (source_of lead t)

  -- ---- all slots filled

  module _ (k : ℕ) (p : Places s ps k) (h : lead < k) (r : List ℕ) (f : Slots s ps lead k r) where
    source_ok : (i : ℕ) → i < k → PlaceOk s ps (source_of lead i)
    source_ok i l = p.each (source_of lead i) (source_lt lead i k h l)

    pub slot_part : (i : ℕ) → i < k → part_at s r i ≡ place_part s ps (source_of lead i)
    unfolding part_at place_part
    slot_part i l = rw (f.slot i 0 l (omega arith), f.slot i 1 l (omega arith))

    -- the block ends where its shape says
    slot_end : (i : ℕ) → i < k → to_of ps (source_of lead i) - from_of ps (source_of lead i)
        ≡ (shape_at s ps (source_of lead i)).end
    unfolding shape_at
    slot_end i l =
        let o = source_ok i l in
        let x : ℕ = source_of lead i in
        let part : List ℕ = place_part s ps x in
        let n : length part ≡ to_of ps x - from_of ps x =
        unfold place_part in length-take-le (to_of ps x - from_of ps x) (drop (from_of ps x) s)
        (omega (arith, length-drop (from_of ps x) s, o.starts, o.ends)) in
        sym n ∙ shape_ends (form_at part) part o.accepted

    slot_shape : (i : ℕ) → i < k → shape_in r i ≡ shape_at s ps (source_of lead i)
    unfolding shape_in
    slot_shape i l =
        let e : (j : ℕ) → j < 8 → number_of r i j ≡ get_or (numbers_at s ps (source_of lead i)) j 0 =
        λ j m. f.slot i j l m in
        rw (
          e 0 (omega arith),
          e 1 (omega arith),
          e 2 (omega arith),
          e 3 (omega arith),
          e 4 (omega arith),
          e 5
              (omega arith),
          e 6 (omega arith),
          e 7 (omega arith),
          slot_end i l,
        )

    opened_bound : Alike s ps k → bound_in r ≡ list_u (place_part s ps 0)
    unfolding bound_in shape_at
    opened_bound a =
        let part : List ℕ = place_part s ps (source_of lead 0) in
        f.slot 0 2 p.some (omega arith) ∙ form_shape_u (form_at part) (list_u part) (list_n part)
        ∙ a (source_of lead 0) (source_lt lead 0 k h p.some)

    -- an accepted block with its numbers
    slot_open : (i : ℕ) → i < k → (number_of r i 0 ≤ number_of r i 1) × (number_of r i 1 ≤ length s)
        × FormOpen (form_in s r i) (part_at s r i) (shape_in r i)
    unfolding form_in shape_at
    slot_open i l =
        let o = source_ok i l in (
          rw (f.slot i 0 l (omega arith), f.slot i 1 l (omega arith)) o.starts,
          rw (f.slot i 1 l (omega arith)) o.ends,
          rw (slot_part i l, slot_shape i l) (valid_opens (form_at (place_part s ps (source_of lead i)))
              (place_part s ps (source_of lead i)) _ o.accepted refl),
        )

    slot_list : Alike s ps k → (i : ℕ) → i < k → ListAt s r i
    slot_list a i l =
        let o = slot_open i l in record {
          room = omega (arith, f.room, p.few);
          few = omega (arith, p.few);
          starts = o.0;
          ends = o.1;
          opened = o.2;
          bound = rw (slot_part i l) (a (source_of lead i) (source_lt lead i k h l) ∙ sym (opened_bound a));
        }

    pub slots_opened : Alike s ps k → lead ≡ lead_of (placed_in s ps k) → Opened s ps k r
    unfolding placed_in
    slots_opened a e =
        let same =
        span_same (pages_at s r) (λ t. place_pages s ps (source_of lead t)) k 0
        (λ j m l. unfold pages_at place_pages in ap decode (slot_part j (omega arith))) in record {
          room = f.room;
          lists = record { some = p.some; few = p.few; each = slot_list a };
          pages = unfold pages_in in same ∙ source_order (place_pages s ps) k lead h e;
          bound = opened_bound a;
          source = λ i l. (source_of lead i, source_lt lead i k h l, slot_part i l);
        }

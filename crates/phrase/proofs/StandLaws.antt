-- Laws of seeking a position: what passing a word's elements leaves, and what where reading stands then tells.
use mathlib.Core.Bool.{Bool, true, false}
use mathlib.Core.Path.{◌≡◌, refl, sym, ap, ◌∙◌}
use mathlib.Core.List.{List}
use Prim.Native.Nat.{ℕ, ◌+◌, ◌-◌, ◌*◌, ◌≤◌, ◌<◌}
use native.Mathlib.Omega.{arith}
use borrow.Author.Tests.{lt-ltb}
use lib.Dec.{ltb}
use Rattle.std.specs.Prelude.{None, Some}
use lib.ListN.{length}
use Rattle.rules.specs.Limits.{limit}
use Rattle.rules.specs.List.{rising}
use Rattle.rules.specs.ReadList.{list_u}
use Rattle.rules.specs.Plain.{member}
use Rattle.walklaws.proofs.OpenLaws.{open_within, open_length, open_rising}
use Rattle.querylaws.specs.Lists.{part_at, shape_in}
use Rattle.span.specs.declared.Walk.{Walk}
use Rattle.span.proofs.WalkLaws.{past_le}
use Rattle.upto.specs.Bounds.{PassedBelow}
use Rattle.turning.specs.Words.{elements_at, with_walk, position_walk, base_in, end_in}
use Rattle.turning.proofs.WordLaws.{walks_long, walk_kept, walk_here}
use Rattle.phrase.specs.Pages.{page_at, Ready, PassedOn, Sought}
use Rattle.phrase.proofs.PageLaws.{page_lacks, page_has, none_left, stands_last, stands_between}

-- ---- what passing word i's elements up to b leaves

module _ (s sh ws : List ℕ) (i b : ℕ) (r : Ready s sh ws i b) where
  -- word i stands at b or behind it already
  pub passed_there : b < (position_walk ws i).past → PassedOn s sh ws i b true ws
  passed_there h = record {
    ready = r;
    found = sym (lt-ltb b (position_walk ws i).past h);
    all = λ l. absurd (omega arith);
    kept = record { before = λ m l. refl; behind = λ m l. refl };
  }

  pub passed_on : i < 8 → (v : Walk)
      → PassedBelow (part_at s sh i) (shape_in sh i) (end_in ws i) b (position_walk ws i) v
      → PassedOn s sh ws i b (ltb b v.past) (with_walk ws (8 * i + 3) v)
  passed_on few v p =
      let after : List ℕ = with_walk ws (8 * i + 3) v in
      let e = walk_here ws (8 * i + 3) v r.room (omega arith) in
      let k = walk_kept ws (8 * i + 3) v in
      let z : end_in after i ≡ end_in ws i = k.behind (8 * i + 7) (omega arith) in
      let f : (position_walk after i).past ≡ v.past = ap (λ (w : Walk). w.past) e in
      let n : (position_walk after i).next ≡ v.next = ap (λ (w : Walk). w.next) e in
      record {
        ready = record {
          room = walks_long ws (8 * i + 3) v ∙ r.room;
          short = omega (arith, z, r.short);
          passing = rw (e, z) p.passing;
        };
        found = ap (ltb b) (sym f);
        all = λ l. n ∙ p.all (omega (arith, f)) ∙ sym z;
        kept = record { before = k.before; behind = λ m l. k.behind m (omega arith) };
      }

-- ---- what word i tells of positions from b on

module _ (s sh ws : List ℕ) (b i : ℕ) (r : Bool) (after : List ℕ)
    (p : PassedOn s sh ws i (base_in ws i + b) r after) where
  -- the bound, among its elements
  abbrev least : ℕ
  least = base_in ws i + b

  same : base_in after i ≡ base_in ws i
  same = p.kept.behind (8 * i + 6) (omega arith)

  abbrev U : ℕ
  U = list_u (part_at s sh i)

  rises : rising 0 U (elements_at s sh i) ≡ true
  rises = open_rising (part_at s sh i) (shape_in sh i) p.ready.passing.on.opened

  within : end_in after i ≤ length (elements_at s sh i)
  unfolding shape_in
  within = omega (arith, open_length (part_at s sh i) (shape_in sh i) p.ready.passing.on.opened, p.ready.short)

  -- no position from there on
  word_none : (position_walk after i).past ≤ least → (d : ℕ) → b ≤ d → member d (page_at s sh after i) ≡ false
  unfolding page_at shape_in
  word_none l d g =
      page_lacks U (elements_at s sh i) rises (base_in after i) (end_in after i) within d
      (none_left (part_at s sh i) (shape_in sh i) (end_in after i) least (position_walk after i) p.ready.passing
      p.ready.short l (p.all l) (base_in after i + d) (omega (arith, same)))

  module _ (found : least < (position_walk after i).past) (n : ℕ)
      (is : n ≡ (position_walk after i).past - 1 - base_in ws i) where
    -- the first position from there on, and none before
    word_has : (b ≤ n) × (n < limit) × (member n (page_at s sh after i) ≡ true)
    unfolding page_at shape_in
    word_has =
        let on = p.ready.passing.on in
        let x =
        stands_last (part_at s sh i) (shape_in sh i) (end_in after i) least (position_walk after i) p.ready.passing
        p.ready.short found in (
          omega (arith, same),
          omega (
            arith,
            on.past_is,
            past_le U (elements_at s sh i) rises (position_walk after i).next
                (omega (arith, on.within, open_length (part_at s sh i) (shape_in sh i) on.opened)),
            open_within (part_at s sh i) (shape_in sh i) on.opened,
          ),
          page_has U (elements_at s sh i) rises (base_in after i) (end_in after i) within n
              ((position_walk after i).next - 1) x.0 (omega (arith, x.1, same)),
        )

    word_lacks : (d : ℕ) → b ≤ d → d < n → member d (page_at s sh after i) ≡ false
    unfolding page_at shape_in
    word_lacks d l m =
        page_lacks U (elements_at s sh i) rises (base_in after i) (end_in after i) within d
        (stands_between (part_at s sh i) (shape_in sh i) (end_in after i) least (position_walk after i) p.ready.passing
        p.ready.short found (base_in after i + d) (omega (arith, same)) (omega (arith, same)))

  pub sought_none : (position_walk after i).past ≤ least → Sought s sh ws i b None after
  sought_none l = record { ready = rw same p.ready; kept = p.kept; first = word_none l }

  pub sought_there : (n : ℕ) → least < (position_walk after i).past → n ≡ (position_walk after i).past - 1 - base_in ws i
      → Sought s sh ws i b (Some n) after
  sought_there n l is =
      let h = word_has l n is in
      record { ready = rw same p.ready; kept = p.kept; first = (h.0, h.1, h.2, word_lacks l n is) }

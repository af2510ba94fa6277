-- Laws of the shapes of a writable word's lists: what each list is asked, and that the pieces are the word's block.
use mathlib.Core.Bool.{true}
use mathlib.Core.Path.{◌≡◌, sym, ap, ◌∙◌}
use mathlib.Core.List.{List, [], ◌∷◌, ◌++◌, append_assoc}
use Prim.Native.Nat.{ℕ, ◌+◌, ◌≤◌}
use native.Mathlib.Omega.{arith}
use lib.ListN.{length, length-append}
use Rattle.rules.specs.Limits.{version}
use Rattle.rules.specs.Bytes.{be, sized}
use Rattle.rules.specs.List.{rising, block, Form, two_runs, form_of, form_block}
use Rattle.rules.specs.Term.{Word, lent_word, total, sums, next, placed, places, term_block}
use Rattle.laws.proofs.ByteLaws.{length_be}
use Rattle.listlaws.proofs.BlockLaws.{block_size}
use Rattle.listlaws.proofs.ValidLaws.{valid_parts, valid_below}
use Rattle.maplaws.proofs.FormLaws.{form_length}
use Rattle.termlaws.specs.Words.{Agreeing, Writable}
use Rattle.termlaws.proofs.SumLaws.{length_sums}
use Rattle.termlaws.proofs.WordLaws.{valid_agreeing, pages_valid, counts_valid, positions_valid, length_places}
use Rattle.termlaws.proofs.BlockLaws.{term_length}
use Rattle.shape.specs.declared.Shape.{Shape}
use Rattle.shape.specs.Shape.{shape_of, form_shape}
use Rattle.filllaws.specs.Filling.{FittingAs}
use Rattle.filllaws.proofs.WriteLaws.{u_of, n_of, end_of, fitting_of}
use Rattle.wordlaws.specs.declared.Shapes.{Shapes}
use Rattle.wordlaws.specs.Lists.{Sums, Places, Shaped}

-- ---- a writable word

pub record Bounds (N : ℕ) (ps cs qs : List ℕ) : Type 0 where
  pub pages : length ps ≤ N
  pub counts : length cs ≤ length qs
  pub positions : length qs ≤ next 0 (places (lent_word ps cs qs))

pub bounds_of : (v N : ℕ) (ps cs qs : List ℕ) → Writable v N (lent_word ps cs qs) → Bounds N ps cs qs
bounds_of v N ps cs qs w =
    let t : Word = lent_word ps cs qs in
    let e = (valid_agreeing N t w.valid).summed in
    record {
      pages = valid_below N ps (pages_valid v N t w);
      counts = omega (arith, e, valid_below (total cs) (sums 0 cs) (counts_valid v N t w), length_sums 0 cs);
      positions = omega (
        arith,
        e,
        valid_below (next 0 (places t)) (places t) (positions_valid v N t w),
        length_places v N t w,
      );
    }

pub shaped_of : (v N k : ℕ) (ps cs qs : List ℕ) → Writable v N (lent_word ps cs qs)
    → k ≡ next 0 (places (lent_word ps cs qs)) → (g : Shapes)
    → g.pages ≡ form_shape (form_of v N (length ps)) N (length ps) → g.counts ≡ shape_of (length qs) (length cs)
    → g.positions ≡ shape_of k (length qs) → Shaped v g ps cs qs
shaped_of v N k ps cs qs w e g a b d =
    let u = u_of (form_of v N (length ps)) N (length ps) g.pages a in
    record {
      writable = rw u w;
      pages_are = a ∙ ap (λ m. form_shape (form_of v m (length ps)) m (length ps)) (sym u);
      counts_are = rw (valid_agreeing N (lent_word ps cs qs) w.valid).summed b;
      places_are = rw (← e) d;
    }

-- ---- its lists

-- a term's header, of lists of these shapes
abbrev pub head_of : Shapes → List ℕ
head_of g = be 4 (5 + g.pages.end + g.counts.end + g.positions.end) ++ (version ∷ [])

module _ {v : ℕ} {g : Shapes} {ps cs qs : List ℕ} (s : Shaped v g ps cs qs) where
  abbrev p : Shape
  p = g.pages

  abbrev c : Shape
  c = g.counts

  abbrev q : Shape
  q = g.positions

  abbrev t : Word
  t = lent_word ps cs qs

  abbrev o : Form
  o = form_of v g.pages.u (length ps)

  agreeing : Agreeing p.u t
  agreeing = valid_agreeing p.u t s.writable.valid

  pub pages_ask : (r : List ℕ) → p.end ≤ length r
      → FittingAs (form_of v p.u (length ps)) p r × (length ps ≡ p.n) × (rising 0 p.u ps ≡ true)
  pages_ask r l =
      let a = pages_valid v p.u t s.writable in (
        fitting_of o p.u (length ps) p s.pages_are r (valid_below p.u ps a) s.writable.within l,
        sym (n_of o p.u (length ps) p s.pages_are),
        agreeing.rises,
      )

  pub counts_ask : (r : List ℕ) → c.end ≤ length r → Sums c cs r
  counts_ask r l =
      let a = counts_valid v p.u t s.writable in
      record {
        fitting = fitting_of two_runs (total cs) (length cs) c s.counts_are r
            (omega (arith, valid_below (total cs) (sums 0 cs) a, length_sums 0 cs))
            (valid_parts (total cs) (sums 0 cs) a).0 l;
        count = sym (n_of two_runs (total cs) (length cs) c s.counts_are);
        reach = sym (u_of two_runs (total cs) (length cs) c s.counts_are);
        counted = agreeing.counted;
      }

  places_long : length (places t) ≡ length qs
  places_long = length_places v p.u t s.writable ∙ agreeing.summed

  pub places_ask : (r : List ℕ) → q.end ≤ length r → Places q cs qs r
  unfolding places
  places_ask r l =
      let a = positions_valid v p.u t s.writable in
      let u = u_of two_runs (next 0 (places t)) (length qs) q s.places_are in
      record {
        fitting = fitting_of two_runs (next 0 (places t)) (length qs) q s.places_are r
            (omega (arith, valid_below (next 0 (places t)) (places t) a, places_long)) s.writable.reach l;
        count = sym (n_of two_runs (next 0 (places t)) (length qs) q s.places_are);
        summed = agreeing.summed;
        counted = agreeing.counted;
        rises = rw u (valid_parts (next 0 (places t)) (places t) a).1;
      }

  pub pages_long : length (form_block (form_of v p.u (length ps)) p.u ps) ≡ p.end
  pages_long = form_length o p.u ps ∙ sym (end_of o p.u (length ps) p s.pages_are)

  counts_end : length (block (total cs) (sums 0 cs)) ≡ c.end
  counts_end =
      block_size (total cs) (sums 0 cs)
      ∙ rw (length_sums 0 cs) (sym (end_of two_runs (total cs) (length cs) c s.counts_are))

  places_end : length (block (next 0 (places t)) (places t)) ≡ q.end
  places_end = block_size (next 0 (places t)) (places t)
      ∙ rw places_long (sym (end_of two_runs (next 0 (places t)) (length qs) q s.places_are))

  pub counts_long : length (block c.u (sums 0 cs)) ≡ c.end
  counts_long = rw (u_of two_runs (total cs) (length cs) c s.counts_are) counts_end

  pub block_long : length (term_block v p.u t) ≡ 5 + p.end + c.end + q.end
  block_long = term_length v p.u t s.writable ∙ omega (arith, pages_long, counts_end, places_end)

  pub head_long : length (head_of g) ≡ 5
  head_long = length-append (be 4 (5 + p.end + c.end + q.end)) (version ∷ [])
      ∙ omega (arith, length_be 4 (5 + p.end + c.end + q.end))

  pub pieces_are : ((head_of g ++ form_block (form_of v p.u (length ps)) p.u ps) ++ block c.u (sums 0 cs))
      ++ block q.u (placed 0 cs qs) ≡ term_block v p.u t
  unfolding term_block sized places
  pieces_are =
      let P : List ℕ = form_block o p.u ps in
      let C : List ℕ = block (total cs) (sums 0 cs) in
      let Q : List ℕ = block (next 0 (placed 0 cs qs)) (placed 0 cs qs) in
      let n : 4 + length (version ∷ (P ++ (C ++ Q))) ≡ 5 + p.end + c.end + q.end =
      omega (arith, length-append P (C ++ Q), length-append C Q, pages_long, counts_end, places_end) in
      rw (
        u_of two_runs (total cs) (length cs) c s.counts_are,
        u_of two_runs (next 0 (placed 0 cs qs)) (length qs) q s.places_are,
        n,
      )
      (simp append_assoc)

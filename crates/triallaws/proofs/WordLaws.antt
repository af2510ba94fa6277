-- Laws of the words' numbers: what stays of a word while those of another or a part of its own change, and for which
-- starts it is ready then.
use mathlib.Core.Path.{◌≡◌, ◌∙◌}
use mathlib.Core.List.{List}
use Prim.Native.Nat.{ℕ, ◌+◌, ◌-◌, ◌*◌, ◌≤◌, ◌<◌}
use native.Mathlib.Decide.{dec_lt}
use native.Mathlib.Omega.{arith}
use lib.ListN.{length}
use Rattle.rules.specs.ReadList.{list_u}
use Rattle.walklaws.proofs.OpenLaws.{open_length, open_rising}
use Rattle.querylaws.specs.Lists.{part_at, shape_in}
use Rattle.span.specs.Walks.{WalkOn}
use Rattle.span.proofs.WalkLaws.{past_mono}
use Rattle.turning.specs.Words.{elements_at, walk_at, count_walk, position_walk, base_in, end_in, Kept}
use Rattle.turning.proofs.WordLaws.{walk_before}
use Rattle.phrase.specs.Pages.{Ready}
use Rattle.triallaws.specs.Spans.{TermAt}

-- ---- numbers that are kept

walk_behind : (ws : List ℕ) (from to : ℕ) (after : List ℕ) → Kept ws from to after → (m : ℕ) → to ≤ m
    → walk_at after m ≡ walk_at ws m
walk_behind ws from to after k m h =
    rw (k.behind m h, k.behind (m + 1) (omega arith), k.behind (m + 2) (omega arith))

-- the eight numbers of word j are as they were
pub record SameWord (ws after : List ℕ) (j : ℕ) : Type 0 where
  pub counts : count_walk after j ≡ count_walk ws j
  pub positions : position_walk after j ≡ position_walk ws j
  pub base : base_in after j ≡ base_in ws j
  pub end : end_in after j ≡ end_in ws j

pub same_word : (ws mid after : List ℕ) (j : ℕ) → SameWord ws mid j → SameWord mid after j → SameWord ws after j
same_word ws mid after j a b = record {
  counts = b.counts ∙ a.counts;
  positions = b.positions ∙ a.positions;
  base = b.base ∙ a.base;
  end = b.end ∙ a.end;
}

module _ (ws : List ℕ) (i : ℕ) (after : List ℕ) where
  -- those of another word than the one whose numbers change
  pub same_other : (from to : ℕ) → 8 * i ≤ from → to ≤ 8 * i + 8 → Kept ws from to after → (j : ℕ) → (j ≡ i → ⊥)
      → SameWord ws after j
  same_other from to l h k j d =
      elim (dec_lt j i) [
        | yes g ↦ record {
          counts = walk_before ws from to after k (8 * j) (omega arith);
          positions = walk_before ws from to after k (8 * j + 3) (omega arith);
          base = k.before (8 * j + 6) (omega arith);
          end = k.before (8 * j + 7) (omega arith);
        }
        | no g ↦
            let m : i < j = omega (arith, d) in
            record {
              counts = walk_behind ws from to after k (8 * j) (omega arith);
              positions = walk_behind ws from to after k (8 * j + 3) (omega arith);
              base = k.behind (8 * j + 6) (omega arith);
              end = k.behind (8 * j + 7) (omega arith);
            }
      ]

  -- reading of its counts leaves the rest of word i
  pub counts_rest : Kept ws (8 * i) (8 * i + 3) after → (position_walk after i ≡ position_walk ws i)
  counts_rest k = walk_behind ws (8 * i) (8 * i + 3) after k (8 * i + 3) (omega arith)

  -- what follows of word i leaves its counts
  pub counts_same : (to : ℕ) → Kept ws (8 * i + 3) to after → count_walk after i ≡ count_walk ws i
  counts_same to k = walk_before ws (8 * i + 3) to after k (8 * i) (omega arith)

  pub span_same : Kept ws (8 * i + 3) (8 * i + 6) after → (base_in after i ≡ base_in ws i) × (end_in after i ≡ end_in ws i)
  span_same k = (k.behind (8 * i + 6) (omega arith), k.behind (8 * i + 7) (omega arith))

-- a term's span stays its span
abbrev pub term_same : (s sh ws after : List ℕ) (p i : ℕ) (t : List ℕ) → base_in after i ≡ base_in ws i
    → end_in after i ≡ end_in ws i → TermAt s sh ws p i t → TermAt s sh after p i t
term_same s sh ws after p i t b e v = record {
  accepts = v.accepts;
  rank = v.rank;
  ranked = v.ranked;
  page_is = v.page_is;
  part_is = v.part_is;
  base_is = b ∙ v.base_is;
  end_is = e ∙ v.end_is;
}

-- ---- the starts that a word is ready for

-- a word whose numbers are as they were is ready for what it was, and for more
pub ready_same : (s sh ws after : List ℕ) (i b : ℕ) → length after ≡ 64 → position_walk after i ≡ position_walk ws i
    → end_in after i ≡ end_in ws i → Ready s sh ws i b → Ready s sh after i b
ready_same s sh ws after i b l e z r = record {
  room = l;
  short = omega (arith, z, r.short);
  passing = rw (e, z) r.passing;
}

pub ready_more : (s sh ws : List ℕ) (i b d : ℕ) → b ≤ d → Ready s sh ws i b → Ready s sh ws i d
ready_more s sh ws i b d l r = record {
  room = r.room;
  short = r.short;
  passing = record { on = r.passing.on; inside = r.passing.inside; below = omega (arith, r.passing.below) };
}

-- a word whose reading stands before its page is ready for any start there
pub ready_begun : (s sh ws : List ℕ) (i : ℕ) → length ws ≡ 64
    → WalkOn (part_at s sh i) (shape_in sh i) (position_walk ws i)
    → (position_walk ws i).past ≡ base_in ws i → (position_walk ws i).next ≤ end_in ws i
    → end_in ws i ≤ length (elements_at s sh i) → Ready s sh ws i (base_in ws i)
unfolding shape_in
ready_begun s sh ws i room on before inside short =
    let size = open_length (part_at s sh i) (shape_in sh i) on.opened in
    record {
      room = room;
      short = omega (arith, size, short);
      passing = record {
        on = on;
        inside = inside;
        below = omega (
          arith,
          past_mono (list_u (part_at s sh i)) (elements_at s sh i)
              (open_rising (part_at s sh i) (shape_in sh i) on.opened) ((position_walk ws i).next - 1)
              (position_walk ws i).next (omega arith) (omega (arith, size, on.within)),
          on.past_is,
          before,
        );
      };
    }

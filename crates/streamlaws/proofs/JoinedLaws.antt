-- Laws of two words, one behind the other: what they have together of a valid word each has by itself, and conversely.
use mathlib.Core.Bool.{true}
use mathlib.Core.Path.{◌≡◌, refl, sym, ap, ◌∙◌}
use mathlib.Core.List.{List, [], ◌∷◌, ◌++◌, append_assoc, append-nil}
use Prim.Native.Nat.{ℕ}
use native.Mathlib.Omega.{arith}
use lib.ListN.{length, length-append}
use Rattle.rules.specs.List.{rising}
use Rattle.rules.specs.Term.{Word, lent_word, total, next, placed, places, positive, in_order_by_page}
use Rattle.rules.specs.Stream.{together}
use Rattle.listlaws.proofs.RisingLaws.{and_parts}
use Rattle.termlaws.specs.Words.{Agreeing}
use Rattle.termlaws.proofs.OrderLaws.{next_append}
use Rattle.addlaws.proofs.MoreLaws.{rising_lower}
use Rattle.streamlaws.specs.Joined.{joined}
use Rattle.streamlaws.proofs.AppendLaws.{Split, rising_split, rising_join, split_first, split_second}
use Rattle.streamlaws.proofs.AppendLaws.{total_append, positive_append, order_pages_append}
use Rattle.streamlaws.proofs.AppendLaws.{placed_append}

-- ---- words one behind the other

three : {p q c d s t : List ℕ} → p ≡ q → c ≡ d → s ≡ t → lent_word p c s ≡ lent_word q d t
three e f g = rw (e, f, g)

pub joined_assoc : (t u v : Word) → joined (joined t u) v ≡ joined t (joined u v)
joined_assoc t u v =
    three (append_assoc t.pages u.pages v.pages) (append_assoc t.counts u.counts v.counts)
    (append_assoc t.positions u.positions v.positions)

pub together_snoc : (ts : List Word) (t : Word) → together (ts ++ (t ∷ [])) ≡ joined (together ts) t
unfolding together
together_snoc [] t = three (append-nil t.pages) (append-nil t.counts) (append-nil t.positions)
together_snoc (u ∷ ts) t = ap (joined u) (together_snoc ts t) ∙ sym (joined_assoc u (together ts) t)

pub joined_none : (t : Word) → joined t (together []) ≡ t
unfolding together
joined_none t = three (append-nil t.pages) (append-nil t.counts) (append-nil t.positions)

pub none_joined : (t : Word) → joined (together []) t ≡ t
unfolding together
none_joined t = refl

-- ---- their elements

pub places_joined : (t u : Word) → total t.counts ≡ length t.positions
    → places (joined t u) ≡ places t ++ placed (next 0 (places t)) u.counts u.positions
unfolding places
places_joined t u e = placed_append 0 t.counts u.counts t.positions u.positions e

pub next_joined : (t u : Word) → total t.counts ≡ length t.positions
    → next 0 (places (joined t u)) ≡ next (next 0 (places t)) (placed (next 0 (places t)) u.counts u.positions)
next_joined t u e = ap (next 0) (places_joined t u e)
    ∙ next_append 0 (places t) (placed (next 0 (places t)) u.counts u.positions)

-- ---- validity

module _ (N : ℕ) (t u : Word) where
  pub agreeing_join : Agreeing N t → Agreeing N u → rising (next 0 t.pages) N u.pages ≡ true
      → Agreeing N (joined t u)
  agreeing_join a b r = record {
    lengths = rw (length-append, length-append t.counts u.counts) (omega (arith, a.lengths, b.lengths));
    rises = rising_join 0 N t.pages u.pages (omega arith) a.rises r;
    counted = rw (positive_append, a.counted) b.counted;
    summed = rw (total_append, length-append) (omega (arith, a.summed, b.summed));
    ordered = rw (order_pages_append t.counts u.counts t.positions u.positions a.summed, a.ordered)
        b.ordered;
  }

  -- the first cut at a page boundary
  module _ (a : Agreeing N (joined t u)) (l : length t.pages ≡ length t.counts)
      (s : total t.counts ≡ length t.positions) where
    pages_split : Split 0 N t.pages u.pages
    pages_split = rising_split 0 N t.pages u.pages (omega arith) a.rises

    counts_split : (positive t.counts ≡ true) × (positive u.counts ≡ true)
    counts_split = and_parts (positive t.counts) (positive u.counts)
        (sym (positive_append t.counts u.counts) ∙ a.counted)

    orders_split : (in_order_by_page t.counts t.positions ≡ true) × (in_order_by_page u.counts u.positions ≡ true)
    orders_split = and_parts (in_order_by_page t.counts t.positions) (in_order_by_page u.counts u.positions)
        (sym (order_pages_append t.counts u.counts t.positions u.positions s) ∙ a.ordered)

    pub agreeing_first : Agreeing N t
    agreeing_first = record {
      lengths = l;
      rises = split_first 0 N t.pages u.pages pages_split;
      counted = counts_split.0;
      summed = s;
      ordered = orders_split.0;
    }

    pub pages_follow : rising (next 0 t.pages) N u.pages ≡ true
    pages_follow = split_second 0 N t.pages u.pages pages_split

    pub agreeing_second : Agreeing N u
    agreeing_second = record {
      lengths = omega (
        arith,
        rw (length-append, length-append) at a.lengths,
      );
      rises = rising_lower (next 0 t.pages) N u.pages pages_follow;
      counted = counts_split.1;
      summed = omega (arith, rw (total_append, length-append) at a.summed);
      ordered = orders_split.1;
    }

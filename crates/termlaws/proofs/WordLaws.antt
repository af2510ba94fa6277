-- Laws of valid words: the parts of valid_word, and that the three lists of a writable word are valid.
use mathlib.Core.Bool.{true, ◌&&◌}
use mathlib.Core.Path.{◌≡◌, sym, ◌∙◌}
use Prim.Native.Nat.{ℕ}
use native.Mathlib.Omega.{arith}
use borrow.Author.Tests.{eq-eqb, eqb-true}
use lib.Dec.{eqb}
use lib.ListN.{length}
use Rattle.rules.specs.List.{rising, valid_list}
use Rattle.rules.specs.Term.{Word, total, sums, next, places, positive, in_order_by_page, valid_word}
use Rattle.listlaws.proofs.RisingLaws.{and_parts, rising_length}
use Rattle.listlaws.proofs.ValidLaws.{valid_from}
use Rattle.termlaws.specs.Words.{Agreeing, Writable}
use Rattle.termlaws.proofs.SumLaws.{sums_rising, next_sums}
use Rattle.termlaws.proofs.PlaceLaws.{placed_rising, length_placed}

pub valid_agreeing : (N : ℕ) (t : Word) → valid_word N t ≡ true → Agreeing N t
unfolding valid_word
valid_agreeing N t v =
    let o = in_order_by_page t.counts t.positions in
    let s = eqb (total t.counts) (length t.positions) in
    let c = positive t.counts in
    let r = rising 0 N t.pages in
    let p = and_parts (eqb (length t.pages) (length t.counts)) (r && (c && (s && o))) v in
    let q = and_parts r (c && (s && o)) p.1 in
    let k = and_parts c (s && o) q.1 in
    let l = and_parts s o k.1 in
    record {
      lengths = eqb-true (length t.pages) (length t.counts) p.0;
      rises = q.0;
      counted = k.0;
      summed = eqb-true (total t.counts) (length t.positions) l.0;
      ordered = l.1;
    }

pub agreeing_valid : (N : ℕ) (t : Word) → Agreeing N t → valid_word N t ≡ true
unfolding valid_word
agreeing_valid N t a =
    rw (
      eq-eqb (length t.pages) (length t.counts) a.lengths,
      a.rises,
      a.counted,
      eq-eqb (total t.counts) (length t.positions) a.summed,
    ) a.ordered

module _ (v N : ℕ) (t : Word) (w : Writable v N t) where
  agreeing : Agreeing N t
  agreeing = valid_agreeing N t w.valid

  pub pages_valid : valid_list N t.pages ≡ true
  pages_valid = valid_from N t.pages w.within agreeing.rises

  pub length_places : length (places t) ≡ total t.counts
  unfolding places
  length_places = length_placed 0 t.counts t.positions agreeing.summed ∙ sym agreeing.summed

  places_rise : rising 0 (next 0 (places t)) (places t) ≡ true
  unfolding places
  places_rise = placed_rising t.counts t.positions agreeing.ordered

  pub positions_valid : valid_list (next 0 (places t)) (places t) ≡ true
  positions_valid = valid_from (next 0 (places t)) (places t) w.reach places_rise

  pub next_counts : next 0 (sums 0 t.counts) ≡ total t.counts
  next_counts = omega (arith, next_sums 0 t.counts agreeing.counted)

  pub counts_valid : valid_list (total t.counts) (sums 0 t.counts) ≡ true
  counts_valid =
      valid_from (total t.counts) (sums 0 t.counts)
      (omega (arith, w.reach, length_places, rising_length 0 (next 0 (places t)) (places t) places_rise (omega arith)))
      (sums_rising t.counts agreeing.counted)

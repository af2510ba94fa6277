-- Laws of an accepted term's bytes: they are the block of the word that is read of them, and that word is writable.
use mathlib.Core.Bool.{true}
use mathlib.Core.Path.{◌≡◌, sym, ap, ap₂, ◌∙◌}
use mathlib.Core.List.{List, [], ◌∷◌, ◌++◌, append-nil}
use Prim.Native.Nat.{ℕ, ◌≤◌}
use native.Mathlib.Nat.{zero-add}
use native.Mathlib.Omega.{arith}
use lib.Dec.{lit<}
use lib.ListN.{length, get_or, take, drop}
use lib.Seq.{drop-cons}
use Rattle.rules.specs.Verdict.{Accepted}
use Rattle.rules.specs.Limits.{limit, version, list_header}
use Rattle.rules.specs.Bytes.{Bytes, sized}
use Rattle.rules.specs.List.{rising, block, Form, form_of, form_block}
use Rattle.rules.specs.ReadList.{stated, list_u, list_n, decode, list_refusal, part_refusal}
use Rattle.rules.specs.Term.{total, sums, next, places, in_order, pages_form, term_block}
use Rattle.rules.specs.Parts.{after, part, inside}
use Rattle.rules.specs.ReadTerm.{lists_of, pages_of, counts_of, positions_of, gaps, read_word, term_refusal}
use Rattle.laws.specs.Blocks.{Lies}
use Rattle.laws.proofs.PartLaws.{whole_sized, inside_parts, inside_lies, part_after}
use Rattle.listlaws.proofs.ValidLaws.{valid_parts}
use Rattle.termlaws.specs.Words.{list_at, Agreeing, Writable, Passed, ListsPass}
use Rattle.laws.proofs.HeadLaws.{up_to_one}
use Rattle.listlaws.proofs.RefusalLaws.{form_first, part_alone}
use Rattle.maplaws.proofs.Theorems.{part_block, part_length}
use Rattle.termlaws.proofs.OrderLaws.{rising_order}
use Rattle.termlaws.proofs.SumLaws.{length_gaps, sums_gaps, gaps_positive, total_gaps}
use Rattle.termlaws.proofs.PlaceLaws.{length_lowered, placed_lowered, lowered_order}
use Rattle.termlaws.proofs.WordLaws.{agreeing_valid}
use Rattle.termlaws.proofs.PassedLaws.{accepted_passed}

-- ---- an accepted list

-- a list of an index of version v
pub record Listed (v : ℕ) (s : List ℕ) : Type 0 where
  pub accepts : part_refusal v s ≡ Accepted
  pub is_block : s ≡ form_block (form_of v (list_u s) (list_n s)) (list_u s) (decode s)
  pub within : list_u s ≤ limit
  pub rises : rising 0 (list_u s) (decode s) ≡ true
  pub ordered : in_order 0 (decode s) ≡ true
  pub count : length (decode s) ≡ list_n s

listed : (v : ℕ) (s : List ℕ) → part_refusal v s ≡ Accepted → Listed v s
listed v s e =
    let p = part_block v s e in
    let o = valid_parts (list_u s) (decode s) p.0 in
    record {
      accepts = e;
      is_block = p.1;
      within = o.0;
      rises = o.1;
      ordered = (rising_order 0 (list_u s) (decode s) (omega arith) o.1).0;
      count = part_length v s e;
    }

-- part k of a term is an accepted list
part_listed : (v k : ℕ) (l : List ℕ) → inside list_header (part_refusal v) (after k l) ≡ Accepted → Listed v (part k l)
unfolding part
part_listed v k l e =
    listed v (take (stated (after k l)) (after k l)) (inside_parts list_header (part_refusal v) (after k l) e).passes

-- one that is no list of pages is in two runs
runs_block : (s : List ℕ) → Listed version s → s ≡ block (list_u s) (decode s)
runs_block s l =
    l.is_block ∙ ap (λ (f : Form). form_block f (list_u s) (decode s)) (form_first (list_u s) (list_n s))

runs_alone : (s : List ℕ) → Listed version s → list_refusal s ≡ Accepted
runs_alone s l = part_alone version s l.accepts (form_first (list_u s) (list_n s))

module _ (v : ℕ) (s : List ℕ) (e : term_refusal v s ≡ Accepted) where
  passed : Passed v s
  passed = accepted_passed v s e

  abbrev cs : List ℕ
  cs = gaps 0 (decode (counts_of s))

  abbrev es : List ℕ
  es = decode (positions_of s)

  pub pages_listed : Listed v (pages_of s)
  unfolding pages_of after
  pages_listed = part_listed v 0 (lists_of s) passed.pages_pass

  pub counts_listed : Listed version (counts_of s)
  unfolding counts_of
  counts_listed = part_listed version 1 (lists_of s) passed.counts_pass

  pub positions_listed : Listed version (positions_of s)
  unfolding positions_of
  positions_listed = part_listed version 2 (lists_of s) passed.positions_pass

  list_lies : (u k : ℕ) → inside list_header (part_refusal u) (after k (lists_of s)) ≡ Accepted
      → Lies list_header (list_at k s) s (part k (lists_of s))
  unfolding lists_of
  list_lies u k i =
      inside_lies list_header (part_refusal u) 5 s k (lit< tt)
      (inside_parts list_header (part_refusal u) (after k (drop 5 s)) i)

  pub lists_pass : ListsPass v s
  unfolding pages_of counts_of positions_of after
  lists_pass = record {
    pages = pages_listed.accepts;
    counts = runs_alone (counts_of s) counts_listed;
    positions = runs_alone (positions_of s) positions_listed;
    pages_at = list_lies v 0 passed.pages_pass;
    counts_at = list_lies version 1 passed.counts_pass;
    positions_at = list_lies version 2 passed.positions_pass;
  }

  total_counts : total cs ≡ list_u (counts_of s)
  total_counts =
      sym (zero-add (total cs)) ∙ total_gaps 0 (decode (counts_of s)) counts_listed.ordered ∙ sym passed.counts_U

  pub total_places : total cs ≡ length es
  total_places = total_counts ∙ sym passed.positions_n ∙ sym positions_listed.count

  places_read : places (read_word s) ≡ es
  unfolding places read_word
  places_read = placed_lowered 0 cs es total_places positions_listed.ordered

  agreeing_read : Agreeing (list_u (pages_of s)) (read_word s)
  unfolding read_word
  agreeing_read = record {
    lengths = pages_listed.count ∙ sym (length_gaps 0 (decode (counts_of s)) ∙ counts_listed.count ∙ passed.counts_n);
    rises = pages_listed.rises;
    counted = gaps_positive 0 (decode (counts_of s)) counts_listed.ordered;
    summed = total_places ∙ sym (length_lowered 0 cs es total_places);
    ordered = lowered_order 0 cs es total_places positions_listed.ordered;
  }

  pub read_writable : Writable v (list_u (pages_of s)) (read_word s)
  read_writable = record {
    known = passed.known;
    valid = agreeing_valid (list_u (pages_of s)) (read_word s) agreeing_read;
    within = pages_listed.within;
    reach = rw (places_read, ← passed.positions_U) positions_listed.within;
  }

  pub lists_are : lists_of s ≡ pages_of s ++ (counts_of s ++ positions_of s)
  unfolding pages_of counts_of positions_of after
  lists_are =
      let l : List ℕ = lists_of s in
      let c : part 2 l ++ [] ≡ after 2 l =
      ap (λ (x : List ℕ). part 2 l ++ x) (sym passed.no_more) ∙ part_after 2 l in
      sym (part_after 0 l) ∙ ap (λ (x : List ℕ). part 0 l ++ x) (sym (part_after 1 l)
      ∙ ap (λ (x : List ℕ). part 1 l ++ x) (sym c ∙ append-nil (part 2 l)))

  body_is : drop 4 s ≡ version ∷ lists_of s
  unfolding lists_of
  body_is =
      drop-cons s 4 0 (omega (arith, passed.head.header)) ∙ ap (λ (x : ℕ). x ∷ drop 5 s) (up_to_one (get_or s 4 0) passed.head.known)

  -- the three lists of the word that is read
  counts_again : block (total cs) (sums 0 cs) ≡ counts_of s
  counts_again = ap₂ block total_counts (sums_gaps 0 (decode (counts_of s)) counts_listed.ordered)
      ∙ sym (runs_block (counts_of s) counts_listed)

  positions_again : block (next 0 (places (read_word s))) (places (read_word s)) ≡ positions_of s
  positions_again = rw (places_read, ← passed.positions_U) (sym (runs_block (positions_of s) positions_listed))

  -- the pages of the word that is read, in their form
  pages_again : form_block (pages_form v (list_u (pages_of s)) (read_word s)) (list_u (pages_of s)) (read_word s).pages
      ≡ pages_of s
  unfolding read_word
  pages_again = rw pages_listed.count (sym pages_listed.is_block)

  pub read_block : Bytes s → s ≡ term_block v (list_u (pages_of s)) (read_word s)
  unfolding term_block read_word
  read_block b =
      whole_sized s b (record { header = omega (arith, passed.head.header); states = passed.head.states })
      ∙ ap sized (body_is ∙ ap (λ (l : List ℕ). version ∷ l) (lists_are ∙ ap₂ (λ (p q : List ℕ). p ++ q)
      (sym pages_again) (ap₂ (λ (p q : List ℕ). p ++ q) (sym counts_again) (sym positions_again))))

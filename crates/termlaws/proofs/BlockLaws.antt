-- Laws of the block of a writable word: where its lists are, how long it is, and that it is accepted and read back.
use mathlib.Core.Bool.{true}
use mathlib.Core.Path.{◌≡◌, sym, ap, ◌∙◌}
use mathlib.Core.List.{List, [], ◌∷◌, ◌++◌, append-nil}
use Prim.Native.Nat.{ℕ, suc, ◌+◌, ◌^◌, ◌≤◌, ◌<◌}
use native.Mathlib.Omega.{arith}
use lib.Dec.{lit<}
use lib.ListN.{length, get_or, drop, length-append}
use lib.Seq.{drop-drop}
use Rattle.rules.specs.Verdict.{Accepted}
use Rattle.rules.specs.Limits.{version, list_header, term_header}
use Rattle.rules.specs.Bytes.{sized}
use Rattle.rules.specs.List.{valid_list, block, Form, form_of, form_block}
use Rattle.rules.specs.ReadList.{list_u, list_n, decode, part_refusal}
use Rattle.rules.specs.Term.{Word, total, sums, next, places, pages_form, term_block}
use Rattle.rules.specs.Parts.{after, inside}
use Rattle.rules.specs.ReadTerm.{lists_of, pages_of, counts_of, positions_of, gaps, read_word, term_refusal}
use Rattle.laws.specs.Blocks.{Whole}
use Rattle.laws.proofs.PartLaws.{sized_whole, length_sized, drop_sized, get_d_sized, after_append}
use Rattle.laws.proofs.PartLaws.{part_first, part_append, after_last, part_last, inside_append}
use Rattle.laws.proofs.HeadLaws.{up_to_known}
use Rattle.listlaws.proofs.RefusalLaws.{form_first}
use Rattle.termlaws.specs.Words.{Writable, Passed}
use Rattle.maplaws.proofs.FormLaws.{form_framed, form_small, form_U, form_n, form_decode}
use Rattle.maplaws.proofs.Theorems.{block_part}
use Rattle.termlaws.proofs.SumLaws.{length_sums, gaps_sums}
use Rattle.termlaws.proofs.PlaceLaws.{lowered_placed}
use Rattle.termlaws.proofs.WordLaws.{valid_agreeing, pages_valid, counts_valid}
use Rattle.termlaws.proofs.WordLaws.{positions_valid, length_places, next_counts}
use Rattle.termlaws.proofs.PassedLaws.{passed_accepted}

-- ---- the block of a valid list, as a part of a term

-- b is the block of the list xs below U in an index of version v
record OfList (v U : ℕ) (xs b : List ℕ) : Type 0 where
  whole : Whole b
  header : list_header ≤ length b
  small : length b < 2 ^ 24
  passes : (t : List ℕ) → inside list_header (part_refusal v) (b ++ t) ≡ Accepted
  U-is : list_u b ≡ U
  n_is : list_n b ≡ length xs
  reads : decode b ≡ xs

of_list : (v U : ℕ) (xs : List ℕ) → valid_list U xs ≡ true
    → OfList v U xs (form_block (form_of v U (length xs)) U xs)
of_list v U xs e =
    let g : Form = form_of v U (length xs) in
    let b : List ℕ = form_block g U xs in
    let f = form_framed g U xs e in
    let w : Whole b = record { header = omega (arith, f.header); states = f.length_stated } in
    record {
      whole = w;
      header = f.header;
      small = form_small g U xs e;
      passes = λ t. inside_append list_header (part_refusal v) b t w f.header ∙ block_part v U xs e;
      U-is = form_U g U xs e;
      n_is = form_n g U xs e;
      reads = form_decode g U xs e;
    }

-- one that is no list of pages
of_runs : (U : ℕ) (xs : List ℕ) → valid_list U xs ≡ true → OfList version U xs (block U xs)
of_runs U xs e =
    rw (ap (λ (g : Form). form_block g U xs) (form_first U (length xs))) at (of_list version U xs e)

-- ---- the block of a writable word

-- the term block of any three list blocks
lists_sized : (p q r : List ℕ) → lists_of (sized (version ∷ (p ++ (q ++ r)))) ≡ p ++ (q ++ r)
unfolding lists_of
lists_sized p q r =
    sym (drop-drop 1 4 (sized (version ∷ (p ++ (q ++ r)))))
    ∙ ap (drop 1) (drop_sized (version ∷ (p ++ (q ++ r))))

module _ (v N : ℕ) (t : Word) (w : Writable v N t) where
  abbrev P : List ℕ
  P = form_block (pages_form v N t) N t.pages

  abbrev C : List ℕ
  C = block (total t.counts) (sums 0 t.counts)

  abbrev Q : List ℕ
  Q = block (next 0 (places t)) (places t)

  p : OfList v N t.pages P
  p = of_list v N t.pages (pages_valid v N t w)

  c : OfList version (total t.counts) (sums 0 t.counts) C
  c = of_runs (total t.counts) (sums 0 t.counts) (counts_valid v N t w)

  q : OfList version (next 0 (places t)) (places t) Q
  q = of_runs (next 0 (places t)) (places t) (positions_valid v N t w)

  body_length : length (version ∷ (P ++ (C ++ Q))) ≡ 1 + (length P + (length C + length Q))
  body_length = rw (length-append P (C ++ Q), length-append C Q) (omega arith)

  pub term_length : length (term_block v N t) ≡ 5 + (length P + (length C + length Q))
  unfolding term_block
  term_length = length_sized (version ∷ (P ++ (C ++ Q))) ∙ omega (arith, body_length)

  pub term_short : length (term_block v N t) < 2 ^ 32
  term_short = omega (arith, term_length, p.small, c.small, q.small)

  pub term_header_lem : term_header ≤ length (term_block v N t)
  term_header_lem = omega (arith, term_length, p.header, c.header, q.header)

  pub term_whole : Whole (term_block v N t)
  unfolding term_block
  term_whole = sized_whole (version ∷ (P ++ (C ++ Q))) (omega (arith, body_length, term_length, term_short))

  term_version : get_or (term_block v N t) 4 0 ≡ version
  unfolding term_block
  term_version = get_d_sized (version ∷ (P ++ (C ++ Q))) 0

  term_lists : lists_of (term_block v N t) ≡ P ++ (C ++ Q)
  unfolding term_block
  term_lists = lists_sized P C Q

  lists_after : (k : ℕ) → after (suc k) (P ++ (C ++ Q)) ≡ after k (C ++ Q)
  lists_after = after_append P (C ++ Q) p.whole

  pub term_pages : pages_of (term_block v N t) ≡ form_block (pages_form v N t) N t.pages
  unfolding pages_of
  term_pages = rw term_lists (part_first P (C ++ Q) p.whole)

  pub term_counts : counts_of (term_block v N t) ≡ block (total t.counts) (sums 0 t.counts)
  unfolding counts_of
  term_counts = rw term_lists (part_append P (C ++ Q) p.whole 0 ∙ part_first C Q c.whole)

  pub term_positions : positions_of (term_block v N t) ≡ block (next 0 (places t)) (places t)
  unfolding positions_of
  term_positions =
      rw term_lists (part_append P (C ++ Q) p.whole 1 ∙ part_append C Q c.whole 0 ∙ part_last Q q.whole)

  lists_rest : after 1 (P ++ (C ++ Q)) ≡ C ++ Q
  unfolding after
  lists_rest = lists_after 0

  lists_last : after 2 (P ++ (C ++ Q)) ≡ Q
  unfolding after
  lists_last = lists_after 1 ∙ after_append C Q c.whole 0

  lists_end : after 3 (P ++ (C ++ Q)) ≡ []
  lists_end = lists_after 2 ∙ after_append C Q c.whole 1 ∙ after_last Q q.whole

  term_passed : Passed v (term_block v N t)
  term_passed =
      let a = valid_agreeing N t w.valid in
      record {
        head = record {
          header = term_header_lem;
          states = term_whole.states;
          known = rw term_version (up_to_known version version (lit< tt) (lit< tt));
        };
        known = w.known;
        pages_pass = rw term_lists (p.passes (C ++ Q));
        counts_pass = rw (term_lists, lists_rest) (c.passes Q);
        positions_pass = rw (term_lists, lists_last) (rw append-nil at (q.passes []));
        no_more = rw term_lists lists_end;
        counts_n = rw (term_counts, term_pages, p.n_is, c.n_is, length_sums 0 t.counts) (sym a.lengths);
        counts_U = rw (term_counts, c.U-is, c.reads) (sym (next_counts v N t w));
        positions_n = rw (term_counts, term_positions, c.U-is, q.n_is) (length_places v N t w);
        positions_U = rw (term_positions, q.U-is, q.reads);
      }

  pub term_accepted : term_refusal v (term_block v N t) ≡ Accepted
  term_accepted = passed_accepted v (term_block v N t) term_passed

  pub term_N : list_u (pages_of (term_block v N t)) ≡ N
  term_N = rw term_pages p.U-is

  gaps_counts : gaps 0 (decode (counts_of (term_block v N t))) ≡ t.counts
  gaps_counts = rw (term_counts, c.reads) (gaps_sums 0 t.counts (valid_agreeing N t w.valid).counted)

  pub term_read : read_word (term_block v N t) ≡ t
  unfolding read_word places
  term_read =
      rw (gaps_counts, term_pages, term_positions, p.reads, q.reads)
      (rw (lowered_placed 0 t.counts t.positions (valid_agreeing N t w.valid).summed))

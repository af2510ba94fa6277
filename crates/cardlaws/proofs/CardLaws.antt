-- Laws of the block of a valid card and of the bytes of an accepted index: each is read back from the other.
use mathlib.Core.Bool.{true}
use mathlib.Core.Path.{◌≡◌, sym, ap, ap₂, ◌∙◌}
use mathlib.Core.List.{List, [], ◌++◌}
use Prim.Native.Nat.{ℕ, ◌+◌, ◌<◌}
use native.Mathlib.Nat.{zero-add}
use native.Mathlib.Omega.{arith}
use lib.ListN.{length, get_or, drop, length-append, length-drop}
use lib.Seq.{ext_get_or}
use Rattle.rules.specs.Bytes.{Bytes}
use Rattle.rules.specs.Limits.{last_edition, up_to, index_header}
use Rattle.rules.specs.ReadList.{stated}
use Rattle.rules.specs.Term.{Word, term_block}
use Rattle.rules.specs.Parts.{after}
use Rattle.rules.specs.Index.{index_front, terms, card, valid_words, index_v, index_n, index_t, term_part, word_of, words_from, words_of}
use Rattle.laws.proofs.PartLaws.{stated_lt}
use Rattle.termlaws.proofs.BlockLaws.{term_read}
use Rattle.cardlaws.specs.Cards.{Valid, Passed}
use Rattle.cardlaws.proofs.FrontLaws.{length_front, drop_front, front_version}
use Rattle.cardlaws.proofs.FrontLaws.{front_stated, front_N, front_T, front_again}
use Rattle.cardlaws.proofs.TermsLaws.{terms_accepted, part_terms, words_writable}
use Rattle.cardlaws.proofs.WalkLaws.{length_words, get_d_words, words_valid, terms_read}

-- ---- the block of a valid card

module _ (ver N : ℕ) (ts : List Word) (v : Valid ver N ts) where
  abbrev size : ℕ
  size = index_header + length (terms ver N ts)

  pub card_length : length (card ver N ts) ≡ index_header + length (terms ver N ts)
  unfolding card
  card_length = length-append (index_front size ver N (length ts)) (terms ver N ts)
      ∙ ap (λ (k : ℕ). k + length (terms ver N ts)) (length_front size ver N (length ts))

  pub card_N : index_n (card ver N ts) ≡ N
  unfolding card
  card_N = front_N size ver N (length ts) (terms ver N ts) v.within

  pub card_T : index_t (card ver N ts) ≡ length ts
  unfolding card
  card_T = front_T size ver N (length ts) (terms ver N ts) v.few

  card_terms : drop index_header (card ver N ts) ≡ terms ver N ts
  unfolding card
  card_terms = drop_front size ver N (length ts) (terms ver N ts)

  card_states : stated (card ver N ts) ≡ length (card ver N ts)
  unfolding card
  card_states = front_stated size ver N (length ts) (terms ver N ts) v.short ∙ sym card_length

  pub card_V : index_v (card ver N ts) ≡ ver
  unfolding card
  card_V = front_version size ver N (length ts) (terms ver N ts)

  known_here : up_to last_edition (get_or (card ver N ts) 4 0) ≡ true
  unfolding index_v
  known_here = rw card_V v.known

  pub card_passed : Passed (card ver N ts)
  card_passed = record {
    head = record { header = omega (arith, card_length); states = card_states; known = known_here };
    within = rw card_N v.within;
    few = rw card_T v.few;
    terms_pass = rw (card_V, card_N, card_T, card_terms) (terms_accepted ver N v.known v.within ts v.words);
  }

  module _ (d : Word) (t : ℕ) (h : t < length ts) where
    pub card_part : term_part t (card ver N ts) ≡ term_block ver N (get_or ts t d)
    unfolding term_part
    card_part = rw card_terms (part_terms ver N v.known v.within ts v.words d t h)

    pub card_word : word_of t (card ver N ts) ≡ get_or ts t d
    unfolding word_of
    card_word = rw card_part (term_read ver N (get_or ts t d) (words_writable ver N v.known v.within ts v.words d t h))

  pub card_words : words_of (card ver N ts) ≡ ts
  unfolding words_of
  card_words =
      let d : Word = word_of 0 [] in
      let l : length (words_from (length ts) 0 (card ver N ts)) ≡ length ts = length_words (length ts) 0 (card ver N ts) in
      rw card_T (ext_get_or d (words_from (length ts) 0 (card ver N ts)) ts l
      (λ i h.
      let k : i < length ts = rw l at h in
      get_d_words (length ts) 0 (card ver N ts) d i k ∙ ap (λ (j : ℕ). word_of j (card ver N ts)) (zero-add i) ∙ card_word d i k))

-- ---- the bytes of an accepted index

words_of_valid : (s : List ℕ) → Passed s → valid_words (index_n s) (words_of s) ≡ true
unfolding words_of after
words_of_valid s p = words_valid (index_v s) (index_n s) s (index_t s) 0 p.terms_pass

module _ (s : List ℕ) (b : Bytes s) (p : Passed s) where
  terms_are : drop index_header s ≡ terms (index_v s) (index_n s) (words_of s)
  unfolding words_of after
  terms_are = terms_read (index_v s) (index_n s) s b (index_t s) 0 p.terms_pass

  words_are : length (words_of s) ≡ index_t s
  unfolding words_of
  words_are = length_words (index_t s) 0 s

  size_is : index_header + length (terms (index_v s) (index_n s) (words_of s)) ≡ stated s
  size_is = ap (λ (l : List ℕ). index_header + length l) (sym terms_are)
      ∙ rw length-drop (omega (arith, p.head.header, p.head.states))

  pub read_valid : Valid (index_v s) (index_n s) (words_of s)
  unfolding index_v
  read_valid = record {
    known = p.head.known;
    within = p.within;
    few = rw words_are p.few;
    words = words_of_valid s p;
    short = rw size_is (stated_lt s b);
  }

  pub read_card : s ≡ card (index_v s) (index_n s) (words_of s)
  unfolding card
  read_card =
      let front = ap₂ (λ (a c : ℕ). index_front a (index_v s) (index_n s) c) (sym size_is) (sym words_are) in
      front_again s b p.head.header ∙ ap₂ (λ (f t : List ℕ). f ++ t) front terms_are

-- Laws of the walk over the term blocks of an index:
-- where each block lies, that each passes, and the words that are read.
use mathlib.Core.Bool.{true}
use mathlib.Core.Path.{◌≡◌, refl, sym, ap, ap₂, ◌∙◌}
use mathlib.Core.List.{List, [], ◌++◌}
use Prim.Native.Nat.{ℕ, zero, suc, ◌+◌, ◌≤◌, ◌<◌}
use native.Mathlib.Nat.{zero-add, add-zero}
use native.Mathlib.Numerals.{add-one}
use native.Mathlib.Omega.{arith}
use lib.Dec.{lit<}
use lib.ListN.{length, get_or, drop, length-drop}
use Rattle.rules.specs.Verdict.{Accepted}
use Rattle.rules.specs.Bytes.{Bytes}
use Rattle.rules.specs.Limits.{term_header, index_header}
use Rattle.rules.specs.ReadList.{list_u}
use Rattle.rules.specs.Term.{Word, term_block}
use Rattle.rules.specs.Parts.{after, part}
use Rattle.rules.specs.ReadTerm.{pages_of, read_word, term_refusal}
use Rattle.rules.specs.Index.{terms, valid_words, index_v, index_n, index_t, term_part, word_of, words_from, terms_refusal}
use Rattle.laws.specs.Blocks.{block_at, Inside}
use Rattle.laws.proofs.ByteLaws.{bytes_drop}
use Rattle.laws.proofs.PartLaws.{after_at, inside_lies, inside_parts, after_suc, part_after, bytes_part}
use Rattle.termlaws.specs.Words.{Writable}
use Rattle.termlaws.proofs.Theorems.{accepted_writable, accepted_block}
use Rattle.cardlaws.specs.Cards.{term_at, Passed, TermIn}
use Rattle.cardlaws.proofs.TermsLaws.{terms_first, terms_none, words_cons}

-- ---- every block passes

pub record Found (ver N k : ℕ) (l : List ℕ) : Type 0 where
  pub passes : Inside term_header (term_refusal ver) (after k l)
  pub accepts : term_refusal ver (part k l) ≡ Accepted
  pub same_N : list_u (pages_of (part k l)) ≡ N

first_found : (ver T N k : ℕ) (l : List ℕ) → terms_refusal ver (suc T) N (after k l) ≡ Accepted
    → Found ver N k l × (terms_refusal ver T N (after (suc k) l) ≡ Accepted)
unfolding part
first_found ver T N k l e =
    let f = terms_first ver T N (after k l) e in
    let i = inside_parts term_header (term_refusal ver) (after k l) f.passes in
    (record { passes = i; accepts = i.passes; same_N = f.same_N }, rw (after_suc k l) f.rest)

pub found : (ver T N k : ℕ) (l : List ℕ) → terms_refusal ver T N (after k l) ≡ Accepted → (t : ℕ) → t < T → Found ver N (k + t) l
found ver zero N k l e t h = absurd (omega arith)
found ver (suc T) N k l e zero h = rw (add-zero k) (first_found ver T N k l e).0
found ver (suc T) N k l e (suc t) h =
    let m : k + suc t ≡ suc k + t = omega arith in
    rw m (found ver T N (suc k) l (first_found ver T N k l e).1 t (omega arith))

-- nothing is left behind the last of them
pub found_end : (ver T N k : ℕ) (l : List ℕ) → terms_refusal ver T N (after k l) ≡ Accepted → after (k + T) l ≡ []
found_end ver zero N k l e = rw (add-zero k) (terms_none ver N (after k l) e)
found_end ver (suc T) N k l e =
    let m : k + suc T ≡ suc k + T = omega arith in
    rw m (found_end ver T N (suc k) l (first_found ver T N k l e).1)

-- ---- in an index that passes

module _ (s : List ℕ) (p : Passed s) where
  passes_all : terms_refusal (index_v s) (index_t s) (index_n s) (after 0 (drop index_header s)) ≡ Accepted
  unfolding after
  passes_all = p.terms_pass

  pub term_in : (t : ℕ) → t < index_t s → TermIn t s
  unfolding term_part
  term_in t h =
      let f : Found (index_v s) (index_n s) t (drop index_header s) =
      rw (zero-add t) at (found (index_v s) (index_t s) (index_n s) 0 (drop index_header s) passes_all t h) in
      record {
        accepts = f.accepts;
        same_N = f.same_N;
        lies = inside_lies term_header (term_refusal (index_v s)) index_header s t (lit< tt) f.passes;
      }

  pub term_at_within : (t : ℕ) → t ≤ index_t s → term_at t s ≤ length s
  unfolding block_at
  term_at_within zero h = p.head.header
  term_at_within (suc t) h = (term_in t h).lies.within

  pub term_at_end : term_at (index_t s) s ≡ length s
  term_at_end =
      let e : after (index_t s) (drop index_header s) ≡ [] =
      rw (zero-add (index_t s)) at (found_end (index_v s) (index_t s) (index_n s) 0 (drop index_header s) passes_all) in
      let d : length (drop (term_at (index_t s) s) s) ≡ 0 = ap length (sym (after_at index_header s (index_t s)) ∙ e) in
      omega (arith, term_at_within (index_t s) (omega arith), sym (length-drop (term_at (index_t s) s) s) ∙ d)

-- ---- the words that are read

pub length_words : (c t : ℕ) (s : List ℕ) → length (words_from c t s) ≡ c
unfolding words_from
length_words zero t s = refl
length_words (suc c) t s = ap suc (length_words c (t + 1) s)

pub get_d_words : (c t : ℕ) (s : List ℕ) (d : Word) (i : ℕ) → i < c → get_or (words_from c t s) i d ≡ word_of (t + i) s
unfolding words_from
get_d_words zero t s d i h = absurd (omega arith)
get_d_words (suc c) t s d zero h = ap (λ (k : ℕ). word_of k s) (sym (add-zero t))
get_d_words (suc c) t s d (suc i) h =
    let e : t + 1 + i ≡ t + suc i = omega arith in
    get_d_words c (t + 1) s d i (omega arith) ∙ ap (λ (k : ℕ). word_of k s) e

module _ (ver N : ℕ) (s : List ℕ) where
  abbrev l : List ℕ
  l = drop index_header s

  pub words_valid : (T k : ℕ) → terms_refusal ver T N (after k l) ≡ Accepted → valid_words N (words_from T k s) ≡ true
  unfolding words_from valid_words word_of term_part
  words_valid zero k e = refl
  words_valid (suc T) k e =
      let f = first_found ver T N k l e in
      let w : Writable ver N (read_word (part k l)) = rw f.0.same_N at (accepted_writable ver (part k l) f.0.accepts) in
      words_cons ver N (read_word (part k l)) (words_from T (k + 1) s) w (rw (add-one k) (words_valid T (suc k) f.1))

  pub terms_read : Bytes s → (T k : ℕ) → terms_refusal ver T N (after k l) ≡ Accepted → after k l ≡ terms ver N (words_from T k s)
  unfolding words_from terms word_of term_part
  terms_read b zero k e = terms_none ver N (after k l) e
  terms_read b (suc T) k e =
      let f = first_found ver T N k l e in
      let p : part k l ≡ term_block ver N (read_word (part k l)) =
      accepted_block ver (part k l) (bytes_part k l (bytes_drop index_header s b)) f.0.accepts
      ∙ ap (λ (n : ℕ). term_block ver n (read_word (part k l))) f.0.same_N in
      sym (part_after k l) ∙ ap₂ (λ (x y : List ℕ). x ++ y) p (terms_read b T (suc k) f.1
      ∙ ap (λ (n : ℕ). terms ver N (words_from T n s)) (sym (add-one k)))

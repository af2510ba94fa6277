-- Laws of the refusal of term blocks one after the other: each test's answer, and that blocks of writable words pass.
use mathlib.Core.Bool.{Bool, true, false, ◌&&◌, false≢true}
use mathlib.Core.Path.{◌≡◌, refl, sym, ap, ◌∙◌}
use mathlib.Core.List.{List, [], ◌∷◌, ◌++◌}
use Prim.Native.Nat.{ℕ, zero, suc, ◌≤◌, ◌<◌}
use native.Mathlib.Omega.{arith}
use borrow.Author.Tests.{ltb-false, le-leb, leb-true, eq-eqb, eqb-true}
use lib.Dec.{ltb, leb, eqb, lit<}
use lib.ListN.{length, get_or, take, drop, drop_of_length-le}
use Rattle.rules.specs.Verdict.{Verdict}
use Rattle.rules.specs.Verdict.{Accepted, Layout, Parts}
use Rattle.rules.specs.Refusal.{number, accepted}
use Rattle.rules.specs.Limits.{limit, last_edition, up_to, term_header}
use Rattle.rules.specs.ReadList.{stated, list_u}
use Rattle.rules.specs.Term.{Word, next, places, valid_word, term_block}
use Rattle.rules.specs.Parts.{after, part, inside}
use Rattle.rules.specs.ReadTerm.{pages_of, term_refusal}
use Rattle.rules.specs.Index.{terms, valid_words, terms_refusal}
use Rattle.laws.proofs.RefusalLaws.{accepted_true, true_accepted, test_passed}
use Rattle.laws.proofs.PartLaws.{inside_append, part_first, after_append, part_append}
use Rattle.listlaws.proofs.RisingLaws.{and_parts}
use Rattle.termlaws.specs.Words.{Writable}
use Rattle.termlaws.proofs.BlockLaws.{term_whole, term_header_lem, term_accepted, term_N}

-- ---- each answer

-- the answer of the first of the blocks, and the N of its pages
abbrev first : ℕ → List ℕ → Verdict
first ver s = inside term_header (term_refusal ver) s

abbrev first_N : List ℕ → ℕ
first_N s = list_u (pages_of (take (stated s) s))

module _ (ver T N : ℕ) (s : List ℕ) where
  pub terms_bad : accepted (first ver s) ≡ false → terms_refusal ver (suc T) N s ≡ first ver s
  unfolding terms_refusal
  terms_bad e = rw (e, terms_refusal)

  pub terms_other : accepted (first ver s) ≡ true → eqb (first_N s) N ≡ false → terms_refusal ver (suc T) N s ≡ Parts
  unfolding terms_refusal
  terms_other e f = rw (e, terms_refusal) (rw (f, terms_refusal))

  pub terms_next : accepted (first ver s) ≡ true → eqb (first_N s) N ≡ true
      → terms_refusal ver (suc T) N s ≡ terms_refusal ver T N (drop (stated s) s)
  unfolding terms_refusal
  terms_next e f = rw (e, terms_refusal) (rw (f, terms_refusal))

-- the first of the blocks passes and is of N, and so do the others
pub record First (ver T N : ℕ) (s : List ℕ) : Type 0 where
  pub passes : inside term_header (term_refusal ver) s ≡ Accepted
  pub same_N : list_u (pages_of (take (stated s) s)) ≡ N
  pub rest : terms_refusal ver T N (drop (stated s) s) ≡ Accepted

pub terms_first : (ver T N : ℕ) (s : List ℕ) → terms_refusal ver (suc T) N s ≡ Accepted → First ver T N s
terms_first ver T N s e = go (accepted (first ver s)) (eqb (first_N s) N) refl refl
  where
    go : (a b : Bool) → accepted (first ver s) ≡ a → eqb (first_N s) N ≡ b → First ver T N s
    go false b p q = absurd (false≢true (sym p ∙ true_accepted (first ver s) (sym (terms_bad ver T N s p) ∙ e)))
    go true false p q = absurd (omega (arith, ap number (sym (terms_other ver T N s p q) ∙ e)))
    go true true p q = record {
      passes = accepted_true (first ver s) p;
      same_N = eqb-true (first_N s) N q;
      rest = sym (terms_next ver T N s p q) ∙ e;
    }

pub first_terms : (ver T N : ℕ) (s : List ℕ) → First ver T N s → terms_refusal ver (suc T) N s ≡ Accepted
first_terms ver T N s f =
    terms_next ver T N s (true_accepted (first ver s) f.passes) (eq-eqb (first_N s) N f.same_N) ∙ f.rest

pub terms_none : (ver N : ℕ) (s : List ℕ) → terms_refusal ver 0 N s ≡ Accepted → s ≡ []
unfolding terms_refusal
terms_none ver N s e =
    drop_of_length-le s {i = 0} (ltb-false 0 (length s) (test_passed (ltb 0 (length s)) Layout Accepted (lit< tt) e).0)

-- ---- blocks of writable words

pub words_parts : (ver N : ℕ) (t : Word) (ts : List Word) → up_to last_edition ver ≡ true → valid_words N (t ∷ ts) ≡ true
    → N ≤ limit
    → Writable ver N t × (valid_words N ts ≡ true)
unfolding valid_words
words_parts ver N t ts k v h =
    let p = and_parts (valid_word N t) (leb (next 0 (places t)) limit && valid_words N ts) v in
    let q = and_parts (leb (next 0 (places t)) limit) (valid_words N ts) p.1 in
    (record { known = k; valid = p.0; within = h; reach = leb-true (next 0 (places t)) limit q.0 }, q.1)

pub words_cons : (ver N : ℕ) (t : Word) (ts : List Word) → Writable ver N t → valid_words N ts ≡ true
    → valid_words N (t ∷ ts) ≡ true
unfolding valid_words
words_cons ver N t ts w v = rw (w.valid, le-leb (next 0 (places t)) limit w.reach) v

module _ (ver N : ℕ) (known : up_to last_edition ver ≡ true) (within : N ≤ limit) where
  pub terms_accepted : (ts : List Word) → valid_words N ts ≡ true → terms_refusal ver (length ts) N (terms ver N ts) ≡ Accepted
  unfolding terms terms_refusal part after
  terms_accepted [] v = refl
  terms_accepted (t ∷ ts) v =
      let p = words_parts ver N t ts known v within in
      let w = p.0 in
      let b : List ℕ = term_block ver N t in
      let r : List ℕ = terms ver N ts in
      let e : take (stated (b ++ r)) (b ++ r) ≡ b = part_first b r (term_whole ver N t w) in
      let d : drop (stated (b ++ r)) (b ++ r) ≡ r = after_append b r (term_whole ver N t w) 0 in
      first_terms ver (length ts) N (b ++ r) (record {
        passes = inside_append term_header (term_refusal ver) b r (term_whole ver N t w) (term_header_lem ver N t w) ∙ term_accepted ver N t w;
        same_N = rw e (term_N ver N t w);
        rest = rw d (terms_accepted ts p.1);
      })

  pub part_terms : (ts : List Word) → valid_words N ts ≡ true → (d : Word) (t : ℕ) → t < length ts
      → part t (terms ver N ts) ≡ term_block ver N (get_or ts t d)
  unfolding terms
  part_terms [] v d t h = absurd (omega arith)
  part_terms (x ∷ ts) v d zero h =
      part_first (term_block ver N x) (terms ver N ts) (term_whole ver N x (words_parts ver N x ts known v within).0)
  part_terms (x ∷ ts) v d (suc t) h =
      let p = words_parts ver N x ts known v within in
      part_append (term_block ver N x) (terms ver N ts) (term_whole ver N x p.0) t ∙ part_terms ts p.1 d t (omega arith)

  pub words_writable : (ts : List Word) → valid_words N ts ≡ true → (d : Word) (t : ℕ) → t < length ts
      → Writable ver N (get_or ts t d)
  words_writable [] v d t h = absurd (omega arith)
  words_writable (x ∷ ts) v d zero h = (words_parts ver N x ts known v within).0
  words_writable (x ∷ ts) v d (suc t) h = words_writable ts (words_parts ver N x ts known v within).1 d t (omega arith)

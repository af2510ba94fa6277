-- Which questions may be asked: a law for each way through the tests.
use mathlib.Core.Bool.{true, false, ◌&&◌}
use mathlib.Core.Path.{◌≡◌, refl, sym}
use mathlib.Core.List.{List, [], ◌∷◌}
use Prim.Native.Nat.{ℕ, ◌≤◌, ◌<◌}
use native.Mathlib.Decide.{ℕ_discrete, dec_lt}
use native.Mathlib.Omega.{arith}
use borrow.Author.Tests.{ne_eqb, eqb-true, ltb-true, leb-true}
use lib.Dec.{ltb, leb, eqb}
use lib.ListN.{length, get_or}
use Rattle.std.specs.Prelude.{None}
use Rattle.std.specs.List.{list_all}
use Rattle.rules.specs.Questions.{all_below, pair_good, words_good, phrase_good, good_question}
use Rattle.questions.specs.declared.Kind.TheVariants.{ByRank, ByBound, Common, Phrase}
use Rattle.questions.specs.Kinds.{Stated}
use Rattle.listlaws.proofs.RisingLaws.{and_parts}

-- all are below T by the test of each
pub below_all : (T : ℕ) (xs : List ℕ) → list_all (λ x. ltb x T) xs ≡ all_below T xs
unfolding all_below
below_all T [] = refl
below_all T (x ∷ xs) = rw (below_all T xs)

-- ---- by kind

module _ (T : ℕ) (kind : ℕ) (args : List ℕ) where
  pub good_pair : 0 < kind → kind < 3 → good_question T kind args ≡ pair_good T args
  unfolding good_question pair_good
  good_pair h k = elim (ℕ_discrete kind 1) [
    | yes e ↦ rw e
    | no n ↦
        let e : kind ≡ 2 = omega arith in
        rw e
  ]

  pub good_words : kind ≡ 3 → good_question T kind args ≡ words_good T args
  unfolding good_question
  good_words e = rw e

  pub good_phrase : kind ≡ 4 → good_question T kind args ≡ phrase_good T args
  unfolding good_question
  good_phrase e = rw e

  pub good_none : kind < 1 → good_question T kind args ≡ false
  unfolding good_question
  good_none h =
      let e : kind ≡ 0 = omega arith in
      rw e

  pub good_other : 4 < kind → good_question T kind args ≡ false
  unfolding good_question
  good_other h =
      rw (
        ne_eqb kind 1 (λ e. omega arith),
        ne_eqb kind 2 (λ e. omega arith),
        ne_eqb kind 3 (λ e. omega arith),
        ne_eqb
            kind 4 (λ e. omega arith),
      )

  -- a number that no kind has
  pub good_unknown : Stated kind None → good_question T kind args ≡ false
  good_unknown h = elim (dec_lt 4 kind) [
    | yes g ↦ good_other g
    | no g ↦ good_none (below_kinds kind (λ e. h ByRank (sym e)) (λ e. h ByBound (sym e)) (λ e. h Common (sym e)) (λ e. h Phrase (sym e)) g)
  ]
    where
      below_kinds : (n : ℕ) → (n ≡ 1 → ⊥) → (n ≡ 2 → ⊥) → (n ≡ 3 → ⊥) → (n ≡ 4 → ⊥) → (4 < n → ⊥) → n < 1
      below_kinds n a b c d g = omega arith

-- ---- what a good question has

pub pair_parts : (T : ℕ) (args : List ℕ) → pair_good T args ≡ true → (length args ≡ 2) × (get_or args 0 0 < T)
unfolding pair_good
pair_parts T args e =
    let p = and_parts (eqb (length args) 2) (ltb (get_or args 0 0) T) e in
    (eqb-true (length args) 2 p.0, ltb-true (get_or args 0 0) T p.1)

-- a question of another kind than 1, 2 and 3 is a phrase
pub good_rest : (T kind : ℕ) (args : List ℕ) → (kind ≡ 1 → ⊥) → (kind ≡ 2 → ⊥) → (kind ≡ 3 → ⊥)
    → good_question T kind args ≡ true → phrase_good T args ≡ true
unfolding good_question
good_rest T kind args a b c e =
    (and_parts (eqb kind 4) (phrase_good T args) (rw (ne_eqb kind 1 a, ne_eqb kind 2 b, ne_eqb kind 3 c) at e)).1

-- one to eight terms, each below T
pub words_parts : (T : ℕ) (args : List ℕ) → words_good T args ≡ true → (0 < length args) × (length args ≤ 8)
    × (all_below T args ≡ true)
unfolding words_good
words_parts T args e =
    let p = and_parts (leb 1 (length args)) (leb (length args) 8 && all_below T args) e in
    let q = and_parts (leb (length args) 8) (all_below T args) p.1 in
    (leb-true 1 (length args) p.0, leb-true (length args) 8 q.0, q.1)

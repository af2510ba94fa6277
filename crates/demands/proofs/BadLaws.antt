-- Questions are well formed exactly where none of them is bad in document 01's words.
use mathlib.Core.Bool.{Bool, true, false, not, ◌&&◌, true≢false, false≢true}
use mathlib.Core.Logic.{◌⊎◌, inl, inr}
use mathlib.Core.Path.{◌≡◌, refl, sym, ap, ◌∙◌}
use mathlib.Core.List.{List, [], ◌∷◌}
use Prim.Native.Nat.{ℕ, zero, suc, ◌+◌, ◌*◌, ◌≤◌, ◌<◌}
use native.Mathlib.Decide.{dec_lt, ℕ_discrete}
use native.Mathlib.Omega.{arith}
use borrow.Author.Tests.{ltb-false, le-leb, leb-true, leb-false, eqb-true, eqb-false}
use lib.Dec.{leb, eqb}
use lib.ListN.{length, get_or, take, drop, length-take, length-drop}
use lib.Seq.{drop-nil, get_or-take}
use Rattle.rules.specs.Limits.{phrase_limit, offset_limit}
use Rattle.rules.specs.List.{rising}
use Rattle.rules.specs.Term.{in_order}
use Rattle.rules.specs.Questions.{terms_of, offsets_of, all_below, pair_good, words_good, offsets_good, phrase_good}
use Rattle.rules.specs.Questions.{good_question, kind_of, count_of, args_of, behind, well_formed}
use Rattle.listlaws.proofs.RisingLaws.{and_parts}
use Rattle.questions.specs.Formed.{formed}
use Rattle.offsets.specs.Pairs.{Even}
use Rattle.questions.proofs.FrontLaws.{formed_front}
use Rattle.questions.proofs.GoodLaws.{good_pair, good_words, good_phrase, good_none, good_other, pair_parts}
use Rattle.questions.proofs.GoodLaws.{words_parts}
use Rattle.offsets.proofs.PairLaws.{pairs_few, same_many}
use Rattle.demands.specs.Faults.{NotBelow}
use Rattle.demands.specs.BadQuestions.{terms_asked, OffsetFault, Bad, question_at, SomeBad}
use Rattle.demands.proofs.FirstLaws.{Tests}
use Rattle.demands.proofs.FaultLaws.{tests_not, tests_order, tests_below, rising_both, below_some, below_none}

-- ---- the pairs of a phrase

module _ (T : ℕ) (args : List ℕ) where
  abbrev ts : List ℕ
  ts = terms_of args

  abbrev ds : List ℕ
  ds = offsets_of args

  -- twice 1 to 8
  abbrev Twice : Type 0
  Twice = (k : ℕ) × (1 ≤ k) × (k ≤ 8) × (length args ≡ 2 * k)

  not_twice : (Even args → (1 ≤ length ts) × (length ts ≤ 8) → ⊥) → Twice → ⊥
  not_twice h w =
      let p = pairs_few args in
      let e : length ts ≡ w.0 = omega (arith, p.0, p.1, w.3) in
      h (omega (arith, w.3)) (omega (arith, w.1), omega (arith, w.2))

  offset_some : 0 < length ds → offsets_good ds ≡ false → OffsetFault ds
  unfolding offsets_good
  offset_some some e = go (eqb (get_or ds 0 0) 0) refl (in_order 0 ds) refl
    where
      go : (a : Bool) → eqb (get_or ds 0 0) 0 ≡ a → (b : Bool) → in_order 0 ds ≡ b → OffsetFault ds
      go false f b g = inl (some, eqb-false (get_or ds 0 0) 0 f)
      go true f false g = inr (inl ((tests_order ds).0 (ap not g)))
      go true f true g =
          inr (inr ((tests_below (offset_limit + 1) ds).0 (ap not (rw (f, rising_both 0 (offset_limit + 1) ds, g) at e))))

  offset_none : offsets_good ds ≡ true → OffsetFault ds → ⊥
  unfolding offsets_good
  offset_none e o =
      let U : ℕ = offset_limit + 1 in
      let p = and_parts (eqb (get_or ds 0 0) 0) (rising 0 U ds) e in
      let q = and_parts (in_order 0 ds) (all_below U ds) (sym (rising_both 0 U ds) ∙ p.1) in
      elim o [
        | inl a ↦ a.1 (eqb-true (get_or ds 0 0) 0 p.0)
        | inr (inl a) ↦ (tests_order ds).1 (ap not q.0) a
        | inr (inr a) ↦ (tests_below U ds).1 (ap not q.1) a
      ]

  phrase_some : phrase_good T args ≡ false → (Twice → ⊥) ⊎ (NotBelow T ts ⊎ OffsetFault ds)
  unfolding phrase_good words_good
  phrase_some e =
      go (eqb (length args) (2 * length ts)) refl (leb 1 (length ts)) refl (leb (length ts) phrase_limit) refl
      (all_below T ts) refl
    where
      go : (a : Bool) → eqb (length args) (2 * length ts) ≡ a → (b : Bool) → leb 1 (length ts) ≡ b
          → (c : Bool) → leb (length ts) phrase_limit ≡ c → (d : Bool) → all_below T ts ≡ d
          → (Twice → ⊥) ⊎ (NotBelow T ts ⊎ OffsetFault ds)
      go false p b q c r d s = inl (not_twice (λ z w. eqb-false (length args) (2 * length ts) p z))
      go true p false q c r d s = inl (not_twice (λ z w. omega (arith, leb-false 1 (length ts) q, w.0)))
      go true p true q false r d s = inl (not_twice (λ z w. omega (arith, leb-false (length ts) phrase_limit r, w.1)))
      go true p true q true r false s = inr (inl (below_some T ts s))
      go true p true q true r true s =
          inr (inr (offset_some (omega (arith, leb-true 1 (length ts) q, same_many args)) (rw (p, q, r, s) at e)))

  phrase_none : phrase_good T args ≡ true → Twice × (NotBelow T ts → ⊥) × (OffsetFault ds → ⊥)
  unfolding phrase_good
  phrase_none e =
      let p = and_parts (eqb (length args) (2 * length ts)) (words_good T ts && offsets_good ds) e in
      let q = and_parts (words_good T ts) (offsets_good ds) p.1 in
      let w = words_parts T ts q.0 in (
        (length ts, w.0, w.1, eqb-true (length args) (2 * length ts) p.0),
        λ o. below_none T ts w.2 o.0 o.1 o.2,
        offset_none q.1,
      )

module _ (T : ℕ) (qs : List ℕ) where
  -- ---- the first question

  -- its terms, by its kind
  pair_terms : kind_of qs ≤ 2 → terms_asked qs ≡ take 1 (args_of qs)
  pair_terms h = rw (le-leb (kind_of qs) 2 h)

  word_terms : kind_of qs ≡ 3 → terms_asked qs ≡ args_of qs
  word_terms e = rw e

  phrase_terms : kind_of qs ≡ 4 → terms_asked qs ≡ terms_of (args_of qs)
  phrase_terms e = rw e

  -- none of its numbers is missing
  module _ (whole : 2 + count_of qs ≤ length qs) where
    has_all : length (args_of qs) ≡ count_of qs
    unfolding args_of
    has_all = length-take (count_of qs) (drop 2 qs) ∙ omega (arith, length-drop 2 qs)

    pair_bad : kind_of qs ≤ 2 → pair_good T (args_of qs) ≡ false → Bad T qs
    unfolding pair_good
    pair_bad h e = go (eqb (length (args_of qs)) 2) refl
      where
        go : (b : Bool) → eqb (length (args_of qs)) 2 ≡ b → Bad T qs
        go false f = inr (inl (inl (h, λ z. eqb-false (length (args_of qs)) 2 f (has_all ∙ z))))
        go true f =
            let n = eqb-true (length (args_of qs)) 2 f in
            let l = ltb-false (get_or (args_of qs) 0 0) T (rw f at e) in
            inr (inr (inl (rw (pair_terms h) (
              0,
              omega (arith, length-take 1 (args_of qs)),
              rw (get_or-take 1 (args_of qs) 0 0 (omega arith)) l,
            ))))

    words_bad : kind_of qs ≡ 3 → words_good T (args_of qs) ≡ false → Bad T qs
    unfolding words_good
    words_bad h e = go (leb 1 (length (args_of qs))) refl (leb (length (args_of qs)) phrase_limit) refl
      where
        go : (a : Bool) → leb 1 (length (args_of qs)) ≡ a → (b : Bool) → leb (length (args_of qs)) phrase_limit ≡ b
            → Bad T qs
        go false f b g =
            inr (inl (inr (inl (h, inl (omega (arith, leb-false 1 (length (args_of qs)) f, has_all))))))
        go true f false g =
            inr (inl (inr (inl (h, inr (omega (arith, leb-false (length (args_of qs)) phrase_limit g, has_all))))))
        go true f true g = inr (inr (inl (rw (word_terms h) (below_some T (args_of qs) (rw (f, g) at e)))))

    phrase_bad : kind_of qs ≡ 4 → phrase_good T (args_of qs) ≡ false → Bad T qs
    phrase_bad h e = elim (phrase_some T (args_of qs) e) [
      | inl n ↦ inr (inl (inr (inr (h, λ k a b c. n (k, a, b, has_all ∙ c)))))
      | inr (inl o) ↦ inr (inr (inl (rw (phrase_terms h) o)))
      | inr (inr o) ↦ inr (inr (inr (inl (h, o))))
    ]

    good_bad : good_question T (kind_of qs) (args_of qs) ≡ false → Bad T qs
    good_bad e =
        let k : ℕ = kind_of qs in
        elim (dec_lt k 1) [
          | yes h ↦ inl (inl h)
          | no h ↦ elim (dec_lt 4 k) [
            | yes l ↦ inl (inr l)
            | no l ↦ elim (dec_lt k 3) [
              | yes m ↦ pair_bad (omega arith) (sym (good_pair T k (args_of qs) (omega arith) (omega arith)) ∙ e)
              | no m ↦ elim (ℕ_discrete k 3) [
                | yes z ↦ words_bad z (sym (good_words T k (args_of qs) z) ∙ e)
                | no z ↦
                    let f : k ≡ 4 = omega (arith, z) in
                    phrase_bad f (sym (good_phrase T k (args_of qs) f) ∙ e)
              ]
            ]
          ]
        ]

    pair_good_lem : 0 < kind_of qs → kind_of qs ≤ 2 → pair_good T (args_of qs) ≡ true → Bad T qs → ⊥
    pair_good_lem h k e bad =
        let p = pair_parts T (args_of qs) e in
        elim bad [
          | inl (inl l) ↦ omega arith
          | inl (inr l) ↦ omega arith
          | inr (inl (inl w)) ↦ w.1 (sym has_all ∙ p.0)
          | inr (inl (inr (inl w))) ↦ omega (arith, w.0)
          | inr (inl (inr (inr w))) ↦ omega (arith, w.0)
          | inr (inr (inl t)) ↦ one_term (rw (pair_terms k) at t) p.1
          | inr (inr (inr (inl o))) ↦ omega (arith, o.0)
          | inr (inr (inr (inr l))) ↦ omega arith
        ]
      where
        one_term : NotBelow T (take 1 (args_of qs)) → get_or (args_of qs) 0 0 < T → ⊥
        one_term o l =
            let i : o.0 ≡ 0 = omega (arith, o.1, length-take 1 (args_of qs)) in
            let f = get_or-take 1 (args_of qs) 0 0 (omega arith) in
            omega (arith, rw i at o.2, f)

    words_good_lem : kind_of qs ≡ 3 → words_good T (args_of qs) ≡ true → Bad T qs → ⊥
    words_good_lem h e bad =
        let p = words_parts T (args_of qs) e in
        elim bad [
          | inl (inl l) ↦ omega arith
          | inl (inr l) ↦ omega arith
          | inr (inl (inl w)) ↦ omega (arith, w.0)
          | inr (inl (inr (inl w))) ↦ elim w.1 [
            | inl l ↦ omega (arith, p.0, has_all)
            | inr l ↦ omega (arith, p.1, has_all)
          ]
          | inr (inl (inr (inr w))) ↦ omega (arith, w.0)
          | inr (inr (inl t)) ↦
              let o : NotBelow T (args_of qs) = rw (word_terms h) at t in
              below_none T (args_of qs) p.2 o.0 o.1 o.2
          | inr (inr (inr (inl o))) ↦ omega (arith, o.0)
          | inr (inr (inr (inr l))) ↦ omega arith
        ]

    phrase_good_lem : kind_of qs ≡ 4 → phrase_good T (args_of qs) ≡ true → Bad T qs → ⊥
    phrase_good_lem h e bad =
        let p = phrase_none T (args_of qs) e in
        elim bad [
          | inl (inl l) ↦ omega arith
          | inl (inr l) ↦ omega arith
          | inr (inl (inl w)) ↦ omega (arith, w.0)
          | inr (inl (inr (inl w))) ↦ omega (arith, w.0)
          | inr (inl (inr (inr w))) ↦ w.1 p.0.0 p.0.1 p.0.2 (sym has_all ∙ p.0.3)
          | inr (inr (inl t)) ↦ p.1 (rw (phrase_terms h) at t)
          | inr (inr (inr (inl o))) ↦ p.2 o.1
          | inr (inr (inr (inr l))) ↦ omega arith
        ]

    good_none_bad : good_question T (kind_of qs) (args_of qs) ≡ true → Bad T qs → ⊥
    good_none_bad e =
        let k : ℕ = kind_of qs in
        elim (dec_lt k 1) [
          | yes h ↦ absurd (false≢true (sym (good_none T k (args_of qs) h) ∙ e))
          | no h ↦ elim (dec_lt 4 k) [
            | yes l ↦ absurd (false≢true (sym (good_other T k (args_of qs) l) ∙ e))
            | no l ↦ elim (dec_lt k 3) [
              | yes m ↦
                  pair_good_lem (omega arith) (omega arith)
                  (sym (good_pair T k (args_of qs) (omega arith) (omega arith)) ∙ e)
              | no m ↦ elim (ℕ_discrete k 3) [
                | yes z ↦ words_good_lem z (sym (good_words T k (args_of qs) z) ∙ e)
                | no z ↦
                    let f : k ≡ 4 = omega (arith, z) in
                    phrase_good_lem f (sym (good_phrase T k (args_of qs) f) ∙ e)
              ]
            ]
          ]
        ]

-- ---- one after the other

module _ (T : ℕ) where
  behind_fewer : (x : ℕ) (qs : List ℕ) → length (behind (x ∷ qs)) ≤ length qs
  unfolding behind
  behind_fewer x qs = rw length-drop (omega arith)

  formed_none : formed T [] ≡ true
  unfolding formed well_formed
  formed_none = refl

  -- at most n numbers
  some_bad : (n : ℕ) (qs : List ℕ) → length qs ≤ n → formed T qs ≡ false → SomeBad T qs
  some_bad zero [] l e = absurd (true≢false (sym formed_none ∙ e))
  some_bad zero (x ∷ qs) l e = absurd (omega arith)
  some_bad (suc n) [] l e = absurd (true≢false (sym formed_none ∙ e))
  some_bad (suc n) (x ∷ qs) l e =
      let s : List ℕ = x ∷ qs in
      let f = sym (formed_front T s (omega arith)) ∙ e in
      go (some_bad n (behind s) (omega (arith, behind_fewer x qs))) f (leb (2 + count_of s) (length s)) refl
      (good_question T (kind_of s) (args_of s)) refl
    where
      go : (formed T (behind (x ∷ qs)) ≡ false → SomeBad T (behind (x ∷ qs)))
          → leb (2 + count_of (x ∷ qs)) (length (x ∷ qs))
          && (good_question T (kind_of (x ∷ qs)) (args_of (x ∷ qs)) && formed T (behind (x ∷ qs))) ≡ false
          → (a : Bool) → leb (2 + count_of (x ∷ qs)) (length (x ∷ qs)) ≡ a
          → (b : Bool) → good_question T (kind_of (x ∷ qs)) (args_of (x ∷ qs)) ≡ b → SomeBad T (x ∷ qs)
      go ih f false p b q =
          (0, omega arith, inr (inr (inr (inr (leb-false (2 + count_of (x ∷ qs)) (length (x ∷ qs)) p)))))
      go ih f true p false q =
          (0, omega arith, good_bad T (x ∷ qs) (leb-true (2 + count_of (x ∷ qs)) (length (x ∷ qs)) p) q)
      go ih f true p true q =
          let a = ih (rw (p, q) at f) in
          (suc a.0, a.1, a.2)

  none_bad : (i : ℕ) (qs : List ℕ) → formed T qs ≡ true → 0 < length (question_at i qs) → Bad T (question_at i qs) → ⊥
  unfolding behind
  none_bad zero [] e h b = omega arith
  none_bad (suc i) [] e h b =
      none_bad i (behind []) (ap (formed T) (drop-nil (2 + count_of [])) ∙ formed_none) h b
  none_bad zero (x ∷ qs) e h b =
      let s : List ℕ = x ∷ qs in
      let p = and_parts (leb (2 + count_of s) (length s)) _ (sym (formed_front T s (omega arith)) ∙ e) in
      let q = and_parts (good_question T (kind_of s) (args_of s)) (formed T (behind s)) p.1 in
      good_none_bad T s (leb-true (2 + count_of s) (length s) p.0) q.0 b
  none_bad (suc i) (x ∷ qs) e h b =
      let s : List ℕ = x ∷ qs in
      let p = and_parts (leb (2 + count_of s) (length s)) _ (sym (formed_front T s (omega arith)) ∙ e) in
      let q = and_parts (good_question T (kind_of s) (args_of s)) (formed T (behind s)) p.1 in
      none_bad i (behind s) q.1 h b

  -- well formed exactly where none is bad
  pub tests_bad : (qs : List ℕ) → Tests (not (well_formed T (length qs) qs)) (SomeBad T qs)
  unfolding formed
  tests_bad qs = tests_not (formed T qs) (SomeBad T qs) (some_bad (length qs) qs (omega arith))
      (λ e o. none_bad o.0 qs e o.1 o.2)

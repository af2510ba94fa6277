-- What the tests of a session's calls tell, in request c's words, and the number of the announcement's refusal.
use mathlib.Core.Bool.{Bool, true, false, not, ◌&&◌, ◌||◌, true≢false}
use mathlib.Core.Logic.{◌⊎◌, inl, inr}
use mathlib.Core.Path.{◌≡◌, refl, sym, ap, ◌∙◌}
use mathlib.Core.List.{List, [], ◌∷◌}
use Prim.Native.Nat.{ℕ, ◌+◌, ◌<◌}
use native.Mathlib.Omega.{arith}
use borrow.Author.Tests.{leb-true, leb-false, eqb-true, eqb-false}
use lib.Dec.{ltb, leb, eqb}
use lib.ListN.{length}
use Rattle.rules.specs.Verdict.{Accepted, Version, Limit, Lists}
use Rattle.rules.specs.declared.Stream.{Stream}
use Rattle.rules.specs.Refusal.{number, accepted}
use Rattle.rules.specs.Limits.{limit, last_edition, up_to}
use Rattle.rules.specs.List.{rising}
use Rattle.rules.specs.Term.{Word, total, next, placed, positive, in_order, in_order_by_page, valid_word}
use Rattle.rules.specs.Stream.{announce_refusal, live, follows, complete}
use Rattle.rules.specs.Questions.{all_below}
use Rattle.laws.proofs.RefusalLaws.{number_inj, accepted_true, true_accepted}
use Rattle.listlaws.proofs.RisingLaws.{and_parts, and_assoc}
use Rattle.demands.specs.Faults.{Unknown}
use Rattle.demands.specs.Sentences.{Sentence, ◌when◌, First}
use Rattle.demands.specs.StreamFaults.{NOrUOver, AnnouncedWrong, BadWord, NotLive, Below, BadRun, WrongTotals}
use Rattle.demands.proofs.FirstLaws.{Tests, tests_both, tests_lt, tests_differ, first_end, first_none}
use Rattle.demands.proofs.SentenceLaws.{test}
use Rattle.demands.proofs.FaultLaws.{tests_unknown, order_least, order_some, tests_not, tests_order, tests_below}
use Rattle.demands.proofs.FaultLaws.{below_some, tests_zero, tests_places, rising_both}

-- ---- tests together

-- one of two holds
pub tests_either : (a b : Bool) (P Q : Type 0) → Tests a P → Tests b Q → Tests (a || b) (P ⊎ Q)
tests_either true b P Q t u = (λ e. inl (t.0 refl), λ e. absurd (true≢false e))
tests_either false b P Q t u =
    (λ e. inr (u.0 e), λ e x. elim x [ inl p ↦ t.1 refl p | inr q ↦ u.1 e q ])

-- not both are passed
pub tests_fails : (a b : Bool) (P Q : Type 0) → Tests (not a) P → Tests (not b) Q → Tests (not (a && b)) (P ⊎ Q)
tests_fails false b P Q t u = (λ e. inl (t.0 refl), λ e. absurd (true≢false e))
tests_fails true b P Q t u =
    (λ e. inr (u.0 e), λ e x. elim x [ inl p ↦ t.1 refl p | inr q ↦ u.1 e q ])

tests_eq : (m n : ℕ) → Tests (eqb m n) (m ≡ n)
tests_eq m n = (eqb-true m n, eqb-false m n)

pub tests_above : (m n : ℕ) → Tests (not (leb m n)) (n < m)
tests_above m n = tests_not (leb m n) (n < m) (leb-false m n) (λ e h. omega (arith, leb-true m n e))

-- ---- the announcement

module _ (v N P Q U : ℕ) where
  tests_over : Tests (ltb limit N || ltb limit U) (NOrUOver N U)
  tests_over = tests_either (ltb limit N) (ltb limit U) _ _ (tests_lt limit N) (tests_lt limit U)

  tests_wrong : Tests (ltb N P || (ltb Q P || (ltb U Q || ((eqb P 0 && ltb 0 Q) || (eqb Q 0 && ltb 0 U)))))
      (AnnouncedWrong N P Q U)
  tests_wrong =
      let a : Bool = eqb P 0 && ltb 0 Q in
      let b : Bool = eqb Q 0 && ltb 0 U in
      tests_either (ltb N P) (ltb Q P || (ltb U Q || (a || b))) _ _ (tests_lt N P)
      (tests_either (ltb Q P) (ltb U Q || (a || b)) _ _ (tests_lt Q P)
      (tests_either (ltb U Q) (a || b) _ _ (tests_lt U Q)
      (tests_either a b _ _
      (tests_both (eqb P 0) (ltb 0 Q) _ _ (tests_eq P 0) (tests_lt 0 Q))
      (tests_both (eqb Q 0) (ltb 0 U) _ _ (tests_eq Q 0) (tests_lt 0 U)))))

  -- the sentences of its own, before room
  abbrev pub own : List Sentence
  own =
      Version when Unknown last_edition v
      ∷ Limit when NOrUOver N U
      ∷ Lists when AnnouncedWrong N P Q U
      ∷ []

  pub announce_first : First (number (announce_refusal v N P Q U)) own
  unfolding announce_refusal
  announce_first =
      test (not (up_to last_edition v)) _ _ _ _ (tests_unknown last_edition v)
      (λ k. test (ltb limit N || ltb limit U) _ _ _ _ tests_over
      (λ a. test (ltb N P || (ltb Q P || (ltb U Q || ((eqb P 0 && ltb 0 Q) || (eqb Q 0 && ltb 0 U)))))
      _ _ _ _ tests_wrong (λ b. first_end)))

  -- it is refused exactly where one of them holds
  abbrev Refusable : Type 0
  Refusable = Unknown last_edition v ⊎ (NOrUOver N U ⊎ AnnouncedWrong N P Q U)

  tests_refused : Tests (not (accepted (announce_refusal v N P Q U))) Refusable
  unfolding First
  tests_refused = tests_not (accepted (announce_refusal v N P Q U)) Refusable refused passed
    where
      refused : accepted (announce_refusal v N P Q U) ≡ false → Refusable
      refused e = elim announce_first [
        | inl k ↦ inl k.0
        | inr k ↦ elim k.1 [
          | inl a ↦ inr (inl a.0)
          | inr a ↦ elim a.1 [
            | inl b ↦ inr (inr b.0)
            | inr b ↦
                let c = true_accepted (announce_refusal v N P Q U)
                (number_inj (announce_refusal v N P Q U) Accepted b.1) in
                absurd (true≢false (sym c ∙ e))
          ]
        ]
      ]

      passed : accepted (announce_refusal v N P Q U) ≡ true → Refusable → ⊥
      passed e x =
          let f : First 0 own =
          rw (accepted_true (announce_refusal v N P Q U) e) at announce_first in
          let n = (first_none 10 own (omega arith)).0 f in
          elim x [ inl k ↦ n.0 k | inr y ↦ elim y [ inl a ↦ n.1.0 a | inr a ↦ n.1.1.0 a ] ]

-- ---- a later call

pub tests_live : (s : Stream) → Tests (not (live s)) (NotLive s)
unfolding live
tests_live s =
    let r : Bool = accepted (announce_refusal s.version s.n s.pages s.positions s.u) in
    let l : Bool = leb s.laid s.pages in
    let f : Bool = leb s.filled s.positions in
    tests_fails (eqb s.mark 1) (r && (l && f)) _ _ (tests_differ s.mark 1)
    (tests_fails r (l && f) _ _ (tests_refused s.version s.n s.pages s.positions s.u)
    (tests_fails l f _ _ (tests_above s.laid s.pages) (tests_above s.filled s.positions)))

pub tests_word : (N : ℕ) (t : Word) → Tests (not (valid_word N t)) (BadWord N t)
unfolding valid_word
tests_word N t =
    let xs : List ℕ = t.pages in
    let cs : List ℕ = t.counts in
    let p : Bool = positive cs in
    let s : Bool = eqb (total cs) (length t.positions) in
    let o : Bool = in_order_by_page cs t.positions in
    rw (rising_both 0 N xs, ← and_assoc (in_order 0 xs) (all_below N xs) (p && (s && o)))
    (tests_fails (eqb (length xs) (length cs)) (in_order 0 xs && (all_below N xs && (p && (s && o)))) _ _
    (tests_differ (length xs) (length cs))
    (tests_fails (in_order 0 xs) (all_below N xs && (p && (s && o))) _ _ (tests_order xs)
    (tests_fails (all_below N xs) (p && (s && o)) _ _ (tests_below N xs)
    (tests_fails p (s && o) _ _ (tests_zero t)
    (tests_fails s o _ _ (tests_differ (total cs) (length t.positions)) (tests_places t))))))

-- pages that do not rise from the least one on begin too low, or are bad by themselves
rises_not : (s : Stream) (t : Word) → rising s.page s.n t.pages ≡ false → BadWord s.n t ⊎ Below s t
rises_not s t e = go (in_order s.page t.pages) refl
  where
    go : (b : Bool) → in_order s.page t.pages ≡ b → BadWord s.n t ⊎ Below s t
    go false f = elim (order_some s.page t.pages f) [ inl a ↦ inr a | inr a ↦ inl (inr (inl a)) ]
    go true f =
        let g : all_below s.n t.pages ≡ false =
        ap (λ (b : Bool). b && all_below s.n t.pages) (sym f)
        ∙ sym (rising_both s.page s.n t.pages) ∙ e in
        inl (inr (inr (inl (below_some s.n t.pages g))))

rises_from : (s : Stream) (t : Word) → rising s.page s.n t.pages ≡ true → Below s t → ⊥
rises_from s t e x =
    let a = and_parts (in_order s.page t.pages) (all_below s.n t.pages)
    (sym (rising_both s.page s.n t.pages) ∙ e) in
    omega (arith, order_least s.page t.pages a.0 x.0, x.1)

-- what more is asked of postings, b, behind these
tests_rest : (s : Stream) (t : Word) (b : Bool) (R : Type 0) → Tests (not b) R
    → Tests (not (valid_word s.n t && (rising s.page s.n t.pages && b)))
    (BadWord s.n t ⊎ (Below s t ⊎ R))
tests_rest s t b R r = go (valid_word s.n t) refl (rising s.page s.n t.pages) refl
  where
    go : (v : Bool) → valid_word s.n t ≡ v → (i : Bool) → rising s.page s.n t.pages ≡ i
        → Tests (not (v && (i && b))) (BadWord s.n t ⊎ (Below s t ⊎ R))
    go false e i f = (λ x. inl ((tests_word s.n t).0 (ap not e)), λ x. absurd (true≢false x))
    go true e false f = (
      λ x. elim (rises_not s t f) [ inl a ↦ inl a | inr a ↦ inr (inl a) ],
      λ x. absurd (true≢false x),
    )
    go true e true f = (
      λ x. inr (inr (r.0 x)),
      λ x y. elim y [
        | inl a ↦ (tests_word s.n t).1 (ap not e) a
        | inr a ↦ elim a [ inl d ↦ rises_from s t f d | inr d ↦ r.1 x d ]
      ],
    )

pub tests_follow : (s : Stream) (t : Word) → Tests (not (follows s t)) (BadRun s t)
unfolding follows
tests_follow s t =
    let l : Bool = leb (s.laid + length t.pages) s.pages in
    let f : Bool = leb (s.filled + length t.positions) s.positions in
    let u : Bool = leb (next s.base (placed s.base t.counts t.positions)) s.u in
    tests_rest s t (l && (f && u)) _
    (tests_fails l (f && u) _ _ (tests_above (s.laid + length t.pages) s.pages)
    (tests_fails f u _ _ (tests_above (s.filled + length t.positions) s.positions)
    (tests_above (next s.base (placed s.base t.counts t.positions)) s.u)))

pub tests_complete : (s : Stream) → Tests (not (complete s)) (WrongTotals s)
unfolding complete
tests_complete s =
    tests_fails (eqb s.laid s.pages) (eqb s.filled s.positions && eqb s.base s.u) _ _
    (tests_differ s.laid s.pages)
    (tests_fails (eqb s.filled s.positions) (eqb s.base s.u) _ _
    (tests_differ s.filled s.positions) (tests_differ s.base s.u))

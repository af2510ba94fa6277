-- A run of questions by document 01's definitions: the answers that fit, the three ways that it ends, and how questions
-- that a host writes one after the other are read.
use mathlib.Core.Bool.{Bool, true, false, cond, not, false≢true}
use mathlib.Core.Path.{◌≡◌, refl, sym, ap, ◌∙◌}
use mathlib.Core.List.{List, [], ◌∷◌}
use Prim.Native.Nat.{ℕ, suc, ◌+◌, ◌-◌, ◌≤◌, ◌<◌}
use native.Mathlib.Decide.{dec_lt}
use native.Mathlib.Omega.{arith}
use borrow.Author.Tests.{le-leb, lt-leb, ltb-true, ltb-false, le-ltb}
use lib.Dec.{ltb}
use lib.ListN.{length, take, length-append}
use lib.Seq.{take_all, take-append_seam, drop-append_seam}
use Rattle.rules.specs.Verdict.{Accepted, Question, Room}
use Rattle.rules.specs.Refusal.{number, accepted, and_then}
use Rattle.rules.specs.Index.{index_t, index_refusal}
use Rattle.rules.specs.Write.{laid}
use Rattle.rules.specs.Questions.{kind_of, count_of, args_of, behind, well_formed, replies}
use Rattle.rules.specs.Ask.{Replied, fitting, fitted, reply, joined, put, ask}
use Rattle.laws.proofs.RefusalLaws.{accepted_true, true_accepted}
use Rattle.questions.specs.Formed.{formed}
use Rattle.questions.proofs.FrontLaws.{formed_front}
use Rattle.telling.specs.declared.HostAsked.{HostAsked}
use Rattle.telling.specs.Told.{Heard}
use Rattle.hostlaws.specs.Host.{HostAnswered}
use Rattle.demands.specs.Asking.{Query, written, Good}
use Rattle.demands.specs.Sentences.{First, index_sentences, asking}
use Rattle.demands.proofs.FirstLaws.{Tests, first_end, first_then}
use Rattle.demands.proofs.SentenceLaws.{test, index_first, index_refuses, index_most}
use Rattle.demands.proofs.BadLaws.{tests_bad}

-- ---- the answers that fit

module _ (a : List ℕ) (rest : List (List ℕ)) (n : ℕ) where
  pub fitting_yes : length a ≤ n → fitting n (a ∷ rest) ≡ a ∷ fitting (n - length a) rest
  unfolding fitting
  fitting_yes h = rw (le-leb (length a) n h, fitting)

  pub fitting_no : n < length a → fitting n (a ∷ rest) ≡ []
  unfolding fitting
  fitting_no h = rw (lt-leb (length a) n h, fitting)

pub record Fits (n : ℕ) (given : List (List ℕ)) : Type 0 where
  pub first : fitting n given ≡ take (length (fitting n given)) given
  pub within : length (joined (fitting n given)) ≤ n
  pub most : length (fitting n given) < length given → n < length (joined (take (length (fitting n given) + 1) given))
  pub all : length (joined given) ≤ n → fitting n given ≡ given

pub fits : (given : List (List ℕ)) (n : ℕ) → Fits n given
unfolding fitting joined
fits [] n = record { first = refl; within = omega arith; most = λ h. absurd (omega arith); all = λ h. refl }
fits (a ∷ rest) n = elim (dec_lt n (length a)) [
  | yes h ↦ record {
    first = rw (fitting_no a rest n h);
    within = rw (fitting_no a rest n h) (omega arith);
    most = λ _. rw (fitting_no a rest n h) (omega (arith, length-append a (joined [])));
    all = λ k. absurd (omega (arith, length-append a (joined rest)));
  }
  | no h ↦ fits_on (omega arith) (fits rest (n - length a))
]
  where
    fits_on : length a ≤ n → Fits (n - length a) rest → Fits n (a ∷ rest)
    fits_on h f =
        let F : List (List ℕ) = fitting (n - length a) rest in
        let next : length (a ∷ F) + 1 ≡ suc (length F + 1) = omega arith in
        let y : fitting n (a ∷ rest) ≡ a ∷ F = fitting_yes a rest n h in
        record {
          first = rw y (ap (λ (l : List (List ℕ)). a ∷ l) f.first);
          within = rw y (omega (arith, length-append a (joined F), f.within));
          most = rw y (λ k.
              let l = length-append a (joined (take (length F + 1) rest)) in
              rw next (omega (arith, f.most (omega arith))));
          all = λ k. y ∙ ap (λ (l : List (List ℕ)). a ∷ l) (f.all (omega (arith, length-append a (joined rest))));
        }

-- ---- the ways that a run ends

module _ (s qs : List ℕ) (n : ℕ) where
  abbrev given : List (List ℕ)
  given = replies s (length qs) qs

  -- the card is accepted and all questions are well formed
  abbrev Passes : Type 0
  Passes = (index_refusal s ≡ Accepted) × (well_formed (index_t s) (length qs) qs ≡ true)

  reply_refused : accepted (index_refusal s) ≡ false → reply s qs n ≡ record { refusal = index_refusal s; answers = [] }
  unfolding reply
  reply_refused a = rw a

  reply_question : accepted (index_refusal s) ≡ true → well_formed (index_t s) (length qs) qs ≡ false
      → reply s qs n ≡ record { refusal = Question; answers = [] }
  unfolding reply
  reply_question a w = rw (a, w)

  pub reply_passed : Passes → reply s qs n ≡ fitted n given
  unfolding reply
  reply_passed p = rw (true_accepted (index_refusal s) p.0, p.1)

  -- it was refused, or the answers that fit were given
  by_end : (P : Replied → Type 0)
      → ((index_refusal s ≡ Accepted → ⊥) → P (record { refusal = index_refusal s; answers = [] }))
      → P (record { refusal = Question; answers = [] })
      → (Passes → P (fitted n given))
      → P (reply s qs n)
  by_end P a b c = go (accepted (index_refusal s)) refl (well_formed (index_t s) (length qs) qs) refl
    where
      go : (x : Bool) → accepted (index_refusal s) ≡ x → (y : Bool) → well_formed (index_t s) (length qs) qs ≡ y
          → P (reply s qs n)
      go false e y f = rw (reply_refused e) (a (λ z. false≢true (sym e ∙ true_accepted (index_refusal s) z)))
      go true e false f = rw (reply_question e f) b
      go true e true f =
          let p : Passes = (accepted_true (index_refusal s) e, f) in
          rw (reply_passed p) (c p)

  -- ---- by the refusal

  -- of the answers that fit: some are left, or none are
  by_fit : (P : Replied → Type 0)
      → (length (fitting n given) < length given → P (record { refusal = Room; answers = fitting n given }))
      → (fitting n given ≡ given → length (joined given) ≤ n → P (record { refusal = Accepted; answers = given }))
      → P (fitted n given)
  unfolding fitted
  by_fit P a b = go (ltb (length (fitting n given)) (length given)) refl
    where
      go : (x : Bool) → ltb (length (fitting n given)) (length given) ≡ x → P (fitted n given)
      go true e = rw e (a (ltb-true (length (fitting n given)) (length given) e))
      go false e =
          let f = fits given n in
          let l = ltb-false (length (fitting n given)) (length given) e in
          let all : fitting n given ≡ given = f.first ∙ take_all (length (fitting n given)) given l in
          rw (e, all) (b all (rw all at f.within))

  pub reply_nothing : ((reply s qs n).refusal ≡ Accepted → ⊥) → ((reply s qs n).refusal ≡ Room → ⊥)
      → (reply s qs n).answers ≡ []
  reply_nothing =
      let P : Replied → Type 0 = λ r. (r.refusal ≡ Accepted → ⊥) → (r.refusal ≡ Room → ⊥) → r.answers ≡ [] in
      by_end P (λ x a b. refl) (λ a b. refl)
      (λ p. by_fit P (λ l a b. absurd (b refl)) (λ e l a b. absurd (a refl)))

  pub reply_room : (reply s qs n).refusal ≡ Room
      → Passes × ((reply s qs n).answers ≡ fitting n given) × (length (fitting n given) < length given)
  reply_room =
      let P : Replied → Type 0 = λ r. r.refusal ≡ Room
      → Passes × (r.answers ≡ fitting n given) × (length (fitting n given) < length given) in
      by_end P (λ x e. absurd (omega (arith, index_most s, ap number e))) (λ e. absurd (omega (arith, ap number e)))
      (λ p. by_fit P (λ l e. (p, refl, l)) (λ a l e. absurd (omega (arith, ap number e))))

  pub reply_all : (reply s qs n).refusal ≡ Accepted
      → Passes × ((reply s qs n).answers ≡ given) × (length (joined given) ≤ n)
  reply_all =
      let P : Replied → Type 0 = λ r. r.refusal ≡ Accepted
      → Passes × (r.answers ≡ given) × (length (joined given) ≤ n) in
      by_end P (λ x e. absurd (x e)) (λ e. absurd (omega (arith, ap number e)))
      (λ p. by_fit P (λ l e. absurd (omega (arith, ap number e))) (λ a l e. (p, refl, l)))

  pub all_reply : Passes → length (joined given) ≤ n → reply s qs n ≡ record { refusal = Accepted; answers = given }
  unfolding fitted
  all_reply p l = reply_passed p ∙ rw ((fits given n).all l, le-ltb (length given) (length given) (omega arith))

  -- ---- by the first sentence that holds

  reply_then : (reply s qs n).refusal ≡ and_then (index_refusal s)
      (cond (not (well_formed (index_t s) (length qs) qs)) Question
      (cond (ltb (length (fitting n given)) (length given)) Room Accepted))
  unfolding reply fitted and_then
  reply_then = go (accepted (index_refusal s)) (well_formed (index_t s) (length qs) qs)
    where
      go : (a b : Bool) → (cond (not a) (record { refusal = index_refusal s; answers = [] })
          (cond (not b) (record { refusal = Question; answers = [] }) (fitted n given))).refusal
          ≡ cond a (cond (not b) Question (cond (ltb (length (fitting n given)) (length given)) Room Accepted))
          (index_refusal s)
      go false b = refl
      go true false = refl
      go true true = refl

  tests_fit : Tests (ltb (length (fitting n given)) (length given)) (n < length (joined given))
  tests_fit =
      let k : ℕ = length (fitting n given) in
      let f = fits given n in (
        λ e. elim (dec_lt n (length (joined given))) [
          | yes h ↦ h
          | no h ↦ absurd (omega (arith, ltb-true k (length given) e, ap length (f.all (omega arith))))
        ],
        λ e h.
            let l = ltb-false k (length given) e in
            let all : fitting n given ≡ given = f.first ∙ take_all k given l in
            omega (arith, rw all at f.within),
      )

-- the card's sentences, then those of the run
pub reply_first : (s qs room : List ℕ) → First (number (reply s qs (length room)).refusal) (asking s qs room)
reply_first s qs room =
    let n : ℕ = length room in
    let more : Bool = ltb (length (fitting n (given s qs n))) (length (given s qs n)) in
    rw (reply_then s qs n) (first_then 7 _ _ (index_sentences s) _ (index_refuses s) (index_first s)
    (λ a. test (not (well_formed (index_t s) (length qs) qs)) _ _ _ _ (tests_bad (index_t s) qs)
    (λ b. test more _ _ _ _ (tests_fit s qs n) (λ c. first_end))))

-- ---- what a host reads off

pub record Reads (r : HostAsked) (room after : List ℕ) (given : Replied) : Type 0 where
  pub refusal : r.refusal ≡ number given.refusal
  pub answered : r.answered ≡ length given.answers
  pub used : r.used ≡ length (joined given.answers)
  pub left : after ≡ laid (joined given.answers) room

pub reads : (s qs room : List ℕ) (r : HostAsked) (after : List ℕ) → HostAnswered s qs room r after
    → Reads r room after (reply s qs (length room))
unfolding ask put
reads s qs room r after p = record {
  refusal = ap (λ (h : Heard). h.refusal) p;
  answered = ap (λ (h : Heard). h.answered) p;
  used = ap (λ (h : Heard). h.used) p;
  left = ap (λ (h : Heard). h.room) p;
}

-- ---- questions as a host writes them

module _ (q : Query) (qs : List Query) where
  abbrev all : List ℕ
  all = written (q ∷ qs)

  front_count : count_of all ≡ length q.numbers
  unfolding written count_of
  front_count = refl

  pub front_kind : kind_of all ≡ q.kind
  unfolding written kind_of
  front_kind = refl

  pub front_args : args_of all ≡ q.numbers
  unfolding written args_of count_of
  front_args = take-append_seam q.numbers (written qs)

  pub front_behind : behind all ≡ written qs
  unfolding written behind count_of
  front_behind =
      let e : 2 + length q.numbers ≡ suc (suc (length q.numbers)) = omega arith in
      rw e (drop-append_seam q.numbers (written qs))

  pub front_some : 0 < length all
  unfolding written
  front_some = omega arith

  front_whole : 2 + length q.numbers ≤ length all
  unfolding written
  front_whole = omega (arith, length-append q.numbers (written qs))

pub written_formed : (T : ℕ) (qs : List Query) → Good T qs → formed T (written qs) ≡ true
unfolding formed well_formed written
written_formed T [] g = refl
written_formed T (q ∷ qs) g =
    formed_front T (written (q ∷ qs)) (front_some q qs)
    ∙ let w = le-leb (2 + length q.numbers) (length (written (q ∷ qs))) (front_whole q qs) in
    rw (front_count q qs, front_kind q qs, front_args q qs, front_behind q qs, w, g.0) (written_formed T qs g.1)

-- Laws of a run's answers: each begins with its count, and together they fit the room.
use mathlib.Core.Bool.{Bool, true, false, cond, not}
use mathlib.Core.Path.{◌≡◌}
use mathlib.Core.List.{List, [], ◌∷◌}
use Prim.Native.Nat.{ℕ, zero, suc, ◌+◌, ◌-◌, ◌≤◌}
use native.Mathlib.Decide.{dec_lt}
use native.Mathlib.Omega.{arith}
use borrow.Author.Tests.{eq-eqb, ne_eqb, le-leb, lt-leb}
use lib.Dec.{eqb, ltb}
use lib.ListN.{length, get_or, length-append}
use Rattle.rules.specs.Verdict.{Question}
use Rattle.rules.specs.Refusal.{accepted}
use Rattle.rules.specs.Index.{index_v, index_n, index_t, index_refusal}
use Rattle.rules.specs.Seek.{Found, none, page}
use Rattle.rules.specs.Common.{common}
use Rattle.rules.specs.Plain.{first_from, common_pages, InPhrase, with_starts}
use Rattle.rules.specs.Questions.{numbered, pages_in, lists_in, by_rank, by_bound, by_common, by_phrase, phrase_in, answer}
use Rattle.rules.specs.Questions.{kind_of, args_of, behind, well_formed, replies}
use Rattle.rules.specs.Ask.{Replied, fitting, fitted, reply, joined}
use Rattle.text.specs.Answers.{Counted}

-- ---- one answer

abbrev Count : List ℕ → Type 0
Count a = length a ≡ get_or a 0 0 + 1

count_cond : (b : Bool) (x y : List ℕ) → Count x → Count y → Count (cond b x y)
count_cond true x y p q = p
count_cond false x y p q = q

count_numbered : (xs : List ℕ) → Count (numbered xs)
unfolding numbered
count_numbered xs = omega arith

count_rank : (xs : List ℕ) (r : ℕ) → Count (by_rank xs r)
unfolding by_rank
count_rank xs r =
    count_cond (ltb r (length xs)) (numbered (get_or xs r 0 ∷ [])) (numbered []) (count_numbered (get_or xs r 0 ∷ []))
    (count_numbered [])

count_bound : (xs : List ℕ) (b : ℕ) → Count (by_bound xs b)
unfolding by_bound
count_bound xs b = go (first_from b 0 xs)
  where
    go : (f : Found) → Count (elim f [ none n ↦ numbered (n ∷ []) | page x i ↦ numbered (x ∷ (i ∷ [])) ])
    go (none n) = count_numbered (n ∷ [])
    go (page x i) = count_numbered (x ∷ (i ∷ []))

count_common : (v N : ℕ) (ls : List (List ℕ)) → Count (by_common v N ls)
unfolding by_common
count_common v N ls = count_numbered ((common v N ls).seeks ∷ ((common v N ls).looks ∷ common_pages ls))

count_phrase : (ts : List InPhrase) → Count (by_phrase ts)
unfolding by_phrase
count_phrase [] = count_numbered []
count_phrase (t ∷ ts) = count_numbered (with_starts (t ∷ ts) t.word.pages)

count_answer : (s : List ℕ) (kind : ℕ) (args : List ℕ) → Count (answer s kind args)
unfolding answer
count_answer s kind args =
    let rank : List ℕ = by_rank (pages_in s (get_or args 0 0)) (get_or args 1 0) in
    let bound : List ℕ = by_bound (pages_in s (get_or args 0 0)) (get_or args 1 0) in
    let shared : List ℕ = by_common (index_v s) (index_n s) (lists_in s args) in
    let phrase : List ℕ = by_phrase (phrase_in s args) in
    count_cond (eqb kind 1) rank (cond (eqb kind 2) bound (cond (eqb kind 3) shared phrase))
    (count_rank (pages_in s (get_or args 0 0)) (get_or args 1 0))
    (count_cond (eqb kind 2) bound (cond (eqb kind 3) shared phrase)
    (count_bound (pages_in s (get_or args 0 0)) (get_or args 1 0))
    (count_cond (eqb kind 3) shared phrase (count_common (index_v s) (index_n s) (lists_in s args))
    (count_phrase (phrase_in s args))))

-- ---- the answers of a run

replies_counted : (s : List ℕ) (f : ℕ) (qs : List ℕ) → Counted (replies s f qs)
unfolding replies
replies_counted s zero qs = tt
replies_counted s (suc f) qs = elim (dec_lt 0 (length qs)) [
  | yes h ↦ rw (ne_eqb (length qs) 0 (λ e. omega arith), replies)
      (count_answer s (kind_of qs) (args_of qs), replies_counted s f (behind qs))
  | no h ↦ rw (eq-eqb (length qs) 0 (omega arith), replies) tt
]

-- answers that each begin with their count, and take at most so many numbers
pub record Fitting (size : ℕ) (given : List (List ℕ)) : Type 0 where
  pub counted : Counted given
  pub within : length (joined given) ≤ size

fitting_none : (size : ℕ) → Fitting size []
unfolding joined
fitting_none size = record { counted = tt; within = omega arith }

fitting_fits : (size : ℕ) (given : List (List ℕ)) → Counted given → Fitting size (fitting size given)
unfolding fitting joined
fitting_fits size [] w = fitting_none size
fitting_fits size (a ∷ rest) w = elim (dec_lt size (length a)) [
  | yes h ↦ rw (lt-leb (length a) size h, fitting) (fitting_none size)
  | no h ↦
      let f = fitting_fits (size - length a) rest w.1 in
      rw (le-leb (length a) size (omega arith), fitting) (record {
        counted = (w.0, f.counted);
        within = rw length-append (omega (arith, f.within));
      })
]

fits_cond : (size : ℕ) (b : Bool) (x y : Replied) → Fitting size x.answers → Fitting size y.answers
    → Fitting size (cond b x y).answers
fits_cond size true x y p q = p
fits_cond size false x y p q = q

pub reply_fits : (s qs : List ℕ) (size : ℕ) → Fitting size (reply s qs size).answers
unfolding reply fitted
reply_fits s qs size =
    let given : List (List ℕ) = replies s (length qs) qs in
    let asked : Replied = cond (not (well_formed (index_t s) (length qs) qs)) (record {
      refusal = Question;
      answers = [];
    }) (fitted size given) in
    fits_cond size (not (accepted (index_refusal s))) (record {
      refusal = index_refusal s;
      answers = [];
    }) asked (fitting_none size)
    (fits_cond size (not (well_formed (index_t s) (length qs) qs)) (record {
      refusal = Question;
      answers = [];
    }) (fitted size given) (fitting_none size)
    (fitting_fits size given (replies_counted s (length qs) qs)))

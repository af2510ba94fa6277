-- What the promises of the library's calls leave open: nothing. Each theorem is of the predicate that the call's
-- contract cites; a result is the answer and, where room is lent, the room after the call.
use mathlib.Core.Path.{◌≡◌, refl, sym, ap, ◌∙◌}
use Rattle.std.specs.Prelude.{Result, Ok, Err, Option, Some, None, cond, eqb, is_some}
use Rattle.std.specs.Option.{unwrap_or}
use mathlib.Core.List.{List}
use Prim.Native.Nat.{ℕ}
use Rattle.rules.specs.declared.Refusal.{Refusal}
use Rattle.std.specs.Result.{result_unwrap_or}
use Rattle.rules.specs.Verdict.{Verdict, verdict}
use Rattle.rules.specs.declared.Outcome.{Outcome}
use Rattle.rules.specs.declared.Screened.{Screened}
use Rattle.rules.specs.declared.Stream.{Stream}
use Rattle.rules.specs.declared.Streamed.{Streamed}
use Rattle.rules.specs.Write.{Made, made}
use Rattle.rules.specs.Term.{Word}
use Rattle.rules.specs.Stream.{Streaming, streaming}
use Rattle.rules.specs.Ask.{asked}
use Rattle.rules.specs.Screen.{Screening, screening}
use Rattle.rules.specs.Promises.{Determined, ListChecked, ListWritten, TermChecked, TermWritten, IndexChecked}
use Rattle.rules.specs.Promises.{TermBegun, PostingsPut, TermEnded, IndexClosed, Answered, ScreenShown, Printed}

-- A promise that equates a view of the result, from which the result can be had back, determines it.
pub by_equation : {A B : Type 0} (view : A → B) (back : B → A) → ((p : A) → back (view p) ≡ p) → (b : B)
    → Determined {A = A} (λ p. view p ≡ b)
by_equation view back e b p q d f = sym (e p) ∙ ap back (d ∙ sym f) ∙ e q

pub check_list_unique : (s : List ℕ) → Determined {A = Verdict} (λ r. ListChecked s r)
check_list_unique s = by_equation (λ r. r) (λ r. r) (λ r. refl) _

pub check_term_unique : (v : ℕ) (s : List ℕ) → Determined {A = Verdict} (λ r. TermChecked v s r)
check_term_unique v s = by_equation (λ r. r) (λ r. r) (λ r. refl) _

pub check_index_unique : (s : List ℕ) → Determined {A = Verdict} (λ r. IndexChecked s r)
check_index_unique s = by_equation (λ r. r) (λ r. r) (λ r. refl) _

-- a result that tells this, with this value where nothing is refused
abbrev valued : {A : Type 0} → Verdict → A → Result A Refusal
valued (Ok _) x = Ok x
valued (Err r) x = Err r

valued_back : (r : Result ℕ Refusal) → valued (verdict r) (result_unwrap_or r 0) ≡ r
valued_back (Ok n) = refl
valued_back (Err r) = refl

-- what the writers and closing promise, of an answer and its room
made_unique : (m : Made) → Determined {A = Result ℕ Refusal × List ℕ} (λ p. made p.0 p.1 ≡ m)
made_unique =
    by_equation
    (λ p. made p.0 p.1)
    (λ m. (valued m.refusal m.size, m.room))
    (λ p i. (valued_back p.0 i, p.1))

pub write_list_unique : (U : ℕ) (xs room : List ℕ)
    → Determined {A = Result ℕ Refusal × List ℕ} (λ p. ListWritten U xs room p.0 p.1)
write_list_unique U xs room = made_unique _

pub write_term_unique : (v N : ℕ) (t : Word) (room : List ℕ)
    → Determined {A = Result ℕ Refusal × List ℕ} (λ p. TermWritten v N t room p.0 p.1)
write_term_unique v N t room = made_unique _

-- what the calls of a session promise
streaming_unique : (m : Streaming) → Determined {A = Streamed × List ℕ} (λ p. streaming p.0 p.1 ≡ m)
streaming_unique =
    by_equation
    (λ p. streaming p.0 p.1)
    (λ m. (record { size = valued m.refusal m.size; stream = m.stream }, m.room))
    (λ p i. (record { size = valued_back p.0.size i; stream = p.0.stream }, p.1))

pub begin_term_unique : (v N P Q U : ℕ) (room : List ℕ)
    → Determined {A = Streamed × List ℕ} (λ p. TermBegun v N P Q U room p.0 p.1)
begin_term_unique v N P Q U room = streaming_unique _

pub put_postings_unique : (s : Stream) (t : Word) (room : List ℕ)
    → Determined {A = Streamed × List ℕ} (λ p. PostingsPut s t room p.0 p.1)
put_postings_unique s t room = streaming_unique _

pub end_term_unique : (s : Stream) (room : List ℕ)
    → Determined {A = Streamed × List ℕ} (λ p. TermEnded s room p.0 p.1)
end_term_unique s room = streaming_unique _

pub close_index_unique : (buffer : List ℕ) (used v N T : ℕ)
    → Determined {A = Result ℕ Refusal × List ℕ} (λ p. IndexClosed buffer used v N T p.0 p.1)
close_index_unique buffer used v N T = made_unique _

pub ask_unique : (s qs room : List ℕ)
    → Determined {A = Outcome × List ℕ} (λ p. Answered s qs room p.0 p.1)
ask_unique s qs room =
    by_equation
    (λ p. asked p.0 p.1)
    (λ a. (record { verdict = a.refusal; answered = a.answered; used = a.used }, a.room))
    (λ p. refl)
    _

pub screen_unique : (s : List ℕ) (b n : ℕ) (ts pages counts : List ℕ)
    → Determined {A = Result Screened Refusal × List ℕ × List ℕ}
    (λ p. ScreenShown s b n ts pages counts p.0 p.1 p.2)
screen_unique s b n ts pages counts = by_equation (λ p. screening p.0 p.1 p.2) back same _
  where
    screened : Screening → Screened
    screened m = record { found = m.found; next = cond (eqb m.full 1) (Some m.next) None }

    back : Screening → Result Screened Refusal × List ℕ × List ℕ
    back m = (valued m.refusal (screened m), m.pages, m.counts)

    same : (p : Result Screened Refusal × List ℕ × List ℕ) → back (screening p.0 p.1 p.2) ≡ p
    same (Ok x, pages, counts) = λ i. (Ok (record { found = x.found; next = bound x.next i }), pages, counts)
      where
        bound : (b : Option ℕ) → cond (eqb (cond (is_some b) 1 0) 1) (Some (unwrap_or b 0)) None ≡ b
        bound (Some b) = refl
        bound None = refl
    same (Err r, pages, counts) = refl

pub answer_text_unique : (s qs text : List ℕ)
    → Determined {A = ℕ × List ℕ} (λ p. Printed s qs text p.0 p.1)
answer_text_unique s qs text p q d e = λ i. ((d.1 ∙ sym e.1) i, (d.0 ∙ sym e.0) i)

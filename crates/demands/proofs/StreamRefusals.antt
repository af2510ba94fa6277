-- Refusals of a word that is handed over in runs, exactly when: of each call the number is that of the first of request
-- c's sentences that holds, and 0 where none does, with what the call then leaves. The sentences, and `Answers`, which
-- says all of this of a later call, are in specs/StreamFaults.antt; FirstLaws.antt turns `First` into "exactly when".
-- Like those of Demands.antt, the theorems are of any result that the promise of the call allows, and of nothing else
-- of the program.
use mathlib.Core.Bool.{Bool, true, false, cond, true≢false}
use mathlib.Core.Logic.{◌⊎◌, inl, inr}
use mathlib.Core.Path.{◌≡◌, refl, sym, ap, ◌∙◌}
use mathlib.Core.List.{List, [], ◌∷◌, ◌++◌}
use Prim.Native.Nat.{ℕ}
use native.Mathlib.Omega.{arith}
use lib.Dec.{ltb}
use lib.ListN.{length}
use Rattle.rules.specs.Verdict.{Verdict}
use Rattle.rules.specs.Verdict.{Accepted, Room}
use Rattle.rules.specs.declared.Stream.{Stream}
use Rattle.rules.specs.Refusal.{accepted, and_then}
use Rattle.rules.specs.Write.{laid}
use Rattle.rules.specs.Term.{Word}
use Rattle.rules.specs.Stream.{Streaming, announce_refusal, stream_size, announced, opened, over, added_word, follows}
use Rattle.rules.specs.Stream.{advanced, complete, goes, size_of, begin_term, put_postings, pointed_word, end_term}
use Rattle.rules.specs.Stream.{together}
use Rattle.laws.proofs.RefusalLaws.{number_inj, true_accepted}
use Rattle.telling.specs.declared.HostStreamed.{HostStreamed}
use Rattle.telling.specs.Told.{ToldStream}
use Rattle.hostlaws.specs.Host.{HostTermBegun, HostPostingsPut, HostTermEnded}
use Rattle.demands.specs.Sentences.{First}
use Rattle.demands.specs.Streams.{Led, Leaves}
use Rattle.demands.specs.StreamFaults.{announcing, BadRun, WrongTotals, BadWord, Past, OtherTotals, On, Answers}
use Rattle.demands.proofs.FirstLaws.{first_end, first_then, tests_lt}
use Rattle.demands.proofs.SentenceLaws.{test}
use Rattle.demands.proofs.StreamFaultLaws.{own, announce_first, tests_follow, tests_complete}
use Rattle.demands.proofs.StreamLaws.{told_refusal, told_goes, answers, told_good}
use Rattle.demands.proofs.LedLaws.{led_underway, led_on, tests_run, tests_close}

-- ---- "The announcement is refused, room unchanged, with 4 (N or U over), 10 (more pages than N or than positions,
-- more positions than U, positions but no pages, U not 0 without positions), 9, in this order; else it writes all
-- headers and clears the rest of the block." Before them an unknown version is 3 [02 f].

module _ (v N P Q U : ℕ) (room : List ℕ) (r : HostStreamed) (after : List ℕ)
    (p : HostTermBegun v N P Q U room r after) where
  -- its own refusal, and whether the room is short
  abbrev asked : Verdict
  asked = announce_refusal v N P Q U

  abbrev short : Bool
  short = ltb (length room) (stream_size v N P Q U)

  begin_gives : (begin_term v N P Q U room).refusal ≡ and_then asked (cond short Room Accepted)
  unfolding begin_term and_then
  begin_gives = go (accepted asked) refl short refl
    where
      go : (a : Bool) → accepted asked ≡ a → (b : Bool) → short ≡ b
          → (begin_term v N P Q U room).refusal ≡ and_then asked (cond short Room Accepted)
      go false e b f = rw e
      go true e true f = rw (e, f)
      go true e false f = rw (e, f)

  pub begin_first : First r.refusal (announcing v N P Q U room)
  begin_first =
      rw (told_refusal (begin_term v N P Q U room) r after p, begin_gives)
      (first_then 10 asked (cond short Room Accepted) (own v N P Q U) _ (omega arith) (announce_first v N P Q U)
      (λ a. test short _ _ _ _ (tests_lt (length room) (stream_size v N P Q U)) (λ b. first_end)))

  -- the two ways
  abbrev Ways : Type 0
  Ways =
      ((r.refusal ≡ 0 → ⊥) × Leaves r after over room)
      ⊎ ((r.refusal ≡ 0) × Leaves r after (opened v N P Q U) (laid (announced v N P Q U) room))

  begin_ways : Ways
  unfolding begin_term
  begin_ways = go (accepted asked) refl short refl
    where
      go : (a : Bool) → accepted asked ≡ a → (b : Bool) → short ≡ b → Ways
      go false e b f =
          let w = told_goes (begin_term v N P Q U room) r after p asked over room (rw e) in
          inl (
            λ z. true≢false (sym (true_accepted asked (number_inj asked Accepted (sym w.0 ∙ z))) ∙ e),
            w.1,
          )
      go true e true f =
          let w = told_goes (begin_term v N P Q U room) r after p Room over room (rw (e, f)) in
          inl (λ z. omega (arith, z, w.0), w.1)
      go true e false f =
          inr (told_goes (begin_term v N P Q U room) r after p Accepted (opened v N P Q U)
          (laid (announced v N P Q U) room) (rw (e, f)))

  -- A refusal leaves the room as it was and hands back a session that has ended.
  pub begin_refused : (r.refusal ≡ 0 → ⊥) → Leaves r after over room
  begin_refused n = elim begin_ways [ inl w ↦ w.1 | inr w ↦ absurd (n w.0) ]

  pub begin_writes : r.refusal ≡ 0 → Leaves r after (opened v N P Q U) (laid (announced v N P Q U) room)
  begin_writes z = elim begin_ways [ inl w ↦ absurd (w.0 z) | inr w ↦ w.1 ]

-- ---- "Bad postings (by the whole-list 10, or past the announcement), or totals wrong at the close, are 10 and the
-- block's room is then all zero. .. A later room shorter than the block is 9 before postings are read, room unchanged,
-- and the session goes on."

-- Postings handed to any session.
module _ (s : Stream) (t : Word) (room : List ℕ) (r : HostStreamed) (after : List ℕ)
    (p : HostPostingsPut s t room r after) where
  abbrev laying : Streaming
  laying = goes Accepted (advanced s t) (added_word s t room)

  pub put_answers : Answers (BadRun s t) s room r after
  unfolding put_postings
  put_answers = answers s room (follows s t) laying (BadRun s t) (tests_follow s t) refl r after p

  -- "Runs are written straight into the room behind what is already there"
  pub put_lays : r.refusal ≡ 0 → Leaves r after (advanced s t) (added_word s t room)
  unfolding put_postings
  put_lays z =
      let e = told_good s room (follows s t) laying (BadRun s t) (tests_follow s t) refl r after p z in
      (told_goes laying r after e Accepted (advanced s t) (added_word s t room) refl).1

-- The close of any session.
module _ (s : Stream) (room : List ℕ) (r : HostStreamed) (after : List ℕ) (p : HostTermEnded s room r after) where
  abbrev closed : Streaming
  closed = record { refusal = Accepted; size = size_of s; stream = over; room = pointed_word s room }

  pub end_answers : Answers (WrongTotals s) s room r after
  unfolding end_term
  end_answers = answers s room (complete s) closed (WrongTotals s) (tests_complete s) refl r after p

  -- "pointers are written by the closing call", and the block's length is told
  pub end_points : r.refusal ≡ 0 → (r.length ≡ size_of s) × (r.stream ≡ over) × (after ≡ pointed_word s room)
  unfolding end_term
  end_points z =
      let e = told_good s room (complete s) closed (WrongTotals s) (tests_complete s) refl r after p z in (
        ap (λ (x : ToldStream). x.length) e,
        ap (λ (x : ToldStream). x.stream) e,
        ap (λ (x : ToldStream). x.room) e,
      )

-- The same of a session that accepted calls have led to: it goes on and has room, so that 10 is given exactly when the
-- word that all runs are together is bad by the whole-list 10 or past the announcement, and at the close exactly when
-- it is not all that was announced.
module _ (v N P Q U : ℕ) (before : List ℕ) (ts : List Word) (s : Stream) (room : List ℕ)
    (l : Led v N P Q U before ts s room) where
  pub led_goes : On s room
  led_goes = led_on v N P Q U ts before s room (led_underway v N P Q U before ts s room l)

  pub run_answers : (t : Word) (r : HostStreamed) (after : List ℕ) → HostPostingsPut s t room r after
      → Answers (BadWord N (together (ts ++ (t ∷ []))) ⊎ Past P Q U (together (ts ++ (t ∷ [])))) s room r after
  unfolding put_postings
  run_answers t r after p =
      let o = led_underway v N P Q U before ts s room l in
      answers s room (follows s t) (laying s t room r after p) _ (tests_run v N P Q U ts before s room o t) refl
      r after p

  pub close_answers : (r : HostStreamed) (after : List ℕ) → HostTermEnded s room r after
      → Answers (OtherTotals P Q U (together ts)) s room r after
  unfolding end_term
  close_answers r after p =
      let o = led_underway v N P Q U before ts s room l in
      answers s room (complete s) (closed s room r after p) _ (tests_close v N P Q U ts before s room o) refl r after p

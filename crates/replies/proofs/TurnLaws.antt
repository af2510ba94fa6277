-- One turn of the run: a law for each way out of it.
use mathlib.Core.Bool.{true}
use mathlib.Core.Path.{◌≡◌, refl, sym, ap, ◌∙◌}
use mathlib.Core.List.{List, [], ◌++◌}
use Prim.Native.Nat.{ℕ, ◌+◌, ◌-◌, ◌≤◌, ◌<◌}
use Rattle.std.specs.Prelude.{Option, None, Some}
use native.Mathlib.Omega.{arith}
use borrow.Rule.Slice.PartMut.{mid_of, put_mid}
use lib.ListN.{length, get_or, take, drop, length-append, length-take, length-drop, take-append-drop}
use lib.Seq.{drop-length}
use Rattle.rules.specs.Verdict.{Accepted, Room}
use Rattle.rules.specs.Write.{laid}
use Rattle.rules.specs.Index.{index_t}
use Rattle.rules.specs.Questions.{good_question, count_of, answer, replies}
use Rattle.rules.specs.Ask.{fitted, put}
use Rattle.questions.specs.Formed.{formed, answers_to}
use Rattle.questions.specs.Wrote.{Wrote}
use Rattle.questions.proofs.PlaceLaws.{formed_inside, formed_good, answers_at}
use Rattle.questions.proofs.WroteLaws.{tail_part, tail_back}
use Rattle.laws.proofs.RoomLaws.{length_laid}
use Rattle.replies.specs.Running.{outcome, running, Under, Turned}
use Rattle.replies.proofs.RunLaws.{run_start, run_end, run_on, run_stop}

module _ (s qs room₀ : List ℕ) where
  pub under_start : formed (index_t s) qs ≡ true → Under s qs room₀ room₀ 0 0 0
  under_start f = record {
    inside = omega arith;
    few = omega arith;
    fits = omega arith;
    same = refl;
    good = f;
    rest = run_start (answers_to s qs) room₀;
  }

  module _ (room : List ℕ) (at n u : ℕ) (i : Under s qs room₀ room at n u) where
    pub under_end : length qs ≤ at → outcome Accepted n u room ≡ put (fitted (length room₀) (answers_to s qs)) room₀
    unfolding answers_to replies
    under_end h =
        let e : at ≡ length qs = omega (arith, i.inside) in
        let d : drop at qs ≡ [] = rw e (drop-length qs) in
        sym (run_end n u room) ∙ sym (ap (λ (l : List ℕ). running n u (answers_to s l) room) d) ∙ i.rest

    module _ (to : ℕ) (h : at < length qs) (e : to ≡ at + (2 + count_of (drop at qs))) where
      pub turn_inside : to ≤ length qs
      turn_inside = formed_inside qs at to h e (index_t s) i.good

      pub turn_good : good_question (index_t s) (get_or qs at 0) (take (to - (at + 2)) (drop (at + 2) qs)) ≡ true
      turn_good = (formed_good qs at to h e (index_t s) i.good).0

      module _ (ys : List ℕ) where
        -- the answer that is due, and the room for it
        abbrev a : List ℕ
        a = answer s (get_or qs at 0) (take (to - (at + 2)) (drop (at + 2) qs))

        abbrev left : List ℕ
        left = mid_of u (length room - u) room

        -- an answer that fits is behind the others, and the run goes on
        turn_on : (r : ℕ) → Wrote a left (Some r) ys → Under s qs room₀ (put_mid u (length room - u) room ys) to (n + 1) (u + r)
        turn_on r w =
            let m = length-drop u room in
            let k : r ≤ length (drop u room) = rw (tail_part u room) at w.1 in
            let y : ys ≡ laid a (drop u room) = rw (tail_part u room) at w.2 in
            let b : put_mid u (length room - u) room ys ≡ take u room ++ laid a (drop u room) =
            tail_back u room ys ∙ ap (λ (t : List ℕ). take u room ++ t) y in
            let z = w.0 in
            let l : length (take u room ++ laid a (drop u room)) ≡ length room =
            length-append (take u room) (laid a (drop u room))
            ∙ omega (arith, length-take u room, length_laid a (drop u room) (omega arith), i.fits) in
            rw b (record {
              inside = turn_inside;
              few = omega (arith, i.few);
              fits = omega (arith, i.fits);
              same = l ∙ i.same;
              good = (formed_good qs at to h e (index_t s) i.good).1;
              rest =
                  rw z (run_on n u a (answers_to s (drop to qs)) room (omega (arith, i.fits))
                  ∙ sym (ap (λ (g : List (List ℕ)). running n u g room) (answers_at qs at to h e s)) ∙ i.rest);
            })

        -- one that does not leaves the room as it is, and the run stops
        turn_stop : Wrote a left None ys → (put_mid u (length room - u) room ys ≡ room)
            × (outcome Room n u room ≡ put (fitted (length room₀) (answers_to s qs)) room₀)
        turn_stop w =
            let m = length-drop u room in
            let k : length (drop u room) < length a = rw (tail_part u room) at w.0 in
            let y : ys ≡ drop u room = rw (tail_part u room) at w.1 in (
              tail_back u room ys ∙ ap (λ (t : List ℕ). take u room ++ t) y ∙ take-append-drop u room,
              sym (run_stop n u a (answers_to s (drop to qs)) room (omega arith))
                  ∙ sym (ap (λ (g : List (List ℕ)). running n u g room) (answers_at qs at to h e s)) ∙ i.rest,
            )

        pub turned : (r : Option ℕ) → Wrote a left r ys → Turned s qs room₀ n u to r (put_mid u (length room - u) room ys)
        turned None w =
            let t = turn_stop w in
            record { same = ap length t.0 ∙ i.same; turn = ap (outcome Room n u) t.0 ∙ t.1 }
        turned (Some r) w = let t = turn_on r w in record { same = t.same; turn = t }

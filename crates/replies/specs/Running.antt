-- A run of questions under way.
--
--   halted n u m fs front back   n are answered and u numbers used, which are `front` of the room; of m answers left fs are put into `back`
--   running n u given room       the outcome of giving the answers `given`, where n are answered and u numbers of the room used
--   outcome r n u room           refusal, number answered, room used, and the room
--   Under s qs room₀ room at n u  the run on the card s is under way: n questions of qs, which end at number `at`, are answered
--   Turned s qs room₀ n u to r after  what a turn brings that wrote r numbers into the room, or none, which then is `after`; the question ends at `to`
--   Started r                    a run that is as far as r is under way before its first question
--   Further run to size r        r is behind the question that ends at `to`; where a turn at `run` wrote an answer of that size, it is under way there
--   Stopped run r                where a turn at `run` wrote nothing, r is the outcome of the whole
--   Ended run r                  where `run` is behind the last question, r is the outcome of the whole
use Rattle.std.specs.Prelude.{true, cond, ◌≡◌, List, ◌++◌, ℕ, ◌+◌, ◌-◌, ◌≤◌, ltb, length, take, drop, Option, None, Some, MatchOption}
use Rattle.rules.specs.Verdict.{Verdict}
use Rattle.rules.specs.Verdict.{Accepted, Room}
use Rattle.rules.specs.declared.Outcome.{Outcome}
use Rattle.rules.specs.Write.{laid}
use Rattle.rules.specs.Index.{index_t}
use Rattle.rules.specs.Ask.{fitting, fitted, joined, Asked, asked, put}
use Rattle.questions.specs.Formed.{formed, answers_to}
use Rattle.replies.specs.declared.Run.{Run}

abbrev pub outcome : Verdict → ℕ → ℕ → List ℕ → Asked
outcome r n u room = record { refusal = r; answered = n; used = u; room = room }

unfoldable pub halted : ℕ → ℕ → ℕ → List (List ℕ) → List ℕ → List ℕ → Asked
halted n u m fs front back = record {
  refusal = cond (ltb (length fs) m) Room Accepted;
  answered = n + length fs;
  used = u + length (joined fs);
  room = front ++ laid (joined fs) back;
}

unfoldable pub running : ℕ → ℕ → List (List ℕ) → List ℕ → Asked
running n u given room = halted n u (length given) (fitting (length room - u) given) (take u room) (drop u room)

pub record Under (s qs room₀ room : List ℕ) (at n u : ℕ) : Type 0 where
  pub inside : at ≤ length qs
  pub few : n ≤ at
  pub fits : u ≤ length room
  pub same : length room ≡ length room₀
  pub good : formed (index_t s) (drop at qs) ≡ true
  pub rest : running n u (answers_to s (drop at qs)) room ≡ put (fitted (length room₀) (answers_to s qs)) room₀

pub record Turned (s qs room₀ : List ℕ) (n u to : ℕ) (r : Option ℕ) (after : List ℕ) : Type 0 where
  pub same : length after ≡ length room₀
  pub turn : MatchOption r (outcome Room n u after ≡ put (fitted (length room₀) (answers_to s qs)) room₀)
      (λ size. Under s qs room₀ after to (n + 1) (u + size))

abbrev pub Started : Run → Type 0
Started r = (s qs room : List ℕ) → formed (index_t s) qs ≡ true → Under s qs room room r.at r.answered r.used

pub record Further (run : Run) (to size : ℕ) (r : Run) : Type 0 where
  pub behind : r.at ≡ to
  pub under : (s qs room₀ after : List ℕ) → Turned s qs room₀ run.answered run.used to (Some size) after
      → Under s qs room₀ after r.at r.answered r.used

abbrev pub Stopped : Run → Outcome → Type 0
Stopped run r =
    (s qs room₀ after : List ℕ) (to : ℕ) → Turned s qs room₀ run.answered run.used to None after
    → asked r after ≡ put (fitted (length room₀) (answers_to s qs)) room₀

abbrev pub Ended : Run → Outcome → Type 0
Ended run r =
    (s qs room₀ room : List ℕ) → Under s qs room₀ room run.at run.answered run.used → length qs ≤ run.at
    → asked r room ≡ put (fitted (length room₀) (answers_to s qs)) room₀

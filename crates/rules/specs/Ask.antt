-- The run of questions: its result and the room after it [01 Questions].
--
--   Replied             the refusal, and the answers given before it
--   fitting left given   the answers that fit whole, in turn, into so much room
--   fitted size given   the reply that gives those, and 9 where not all of them fit
--   reply s qs size     the run of the questions qs on the card s, with room of that size
--   joined given        answers one after the other
--   Asked               the result: refusal, number answered, room used, and the room after it
--   asked r room        the same, of what the function answers and the room after it
--   put r room          the same, of a reply whose answers are laid into the room
--   ask s qs room       the call
use Rattle.std.specs.Prelude.{true, false, cond, not, List, [], ◌∷◌, ◌++◌, ℕ, ◌-◌, ltb, leb, length}
use Rattle.rules.specs.Verdict.{Verdict}
use Rattle.rules.specs.Verdict.{Accepted, Question, Room}
use Rattle.rules.specs.declared.Outcome.{Outcome}
use Rattle.rules.specs.Refusal.{accepted}
use Rattle.rules.specs.Write.{laid}
use Rattle.rules.specs.Index.{index_t, index_refusal}
use Rattle.rules.specs.Questions.{well_formed, replies}

pub record Replied : Type 0 where
  pub refusal : Verdict
  pub answers : List (List ℕ)

unfoldable pub fitting : ℕ → List (List ℕ) → List (List ℕ)
fitting left [] = []
fitting left (a ∷ rest) = elim (leb (length a) left) [ true ↦ a ∷ fitting (left - length a) rest | false ↦ [] ]

unfoldable pub fitted : ℕ → List (List ℕ) → Replied
fitted size given = record {
  refusal = cond (ltb (length (fitting size given)) (length given)) Room Accepted;
  answers = fitting size given;
}

unfoldable pub reply : List ℕ → List ℕ → ℕ → Replied
reply s qs size =
    cond (not (accepted (index_refusal s))) (record { refusal = index_refusal s; answers = [] })
    (cond (not (well_formed (index_t s) (length qs) qs)) (record { refusal = Question; answers = [] })
    (fitted size (replies s (length qs) qs)))

unfoldable pub joined : List (List ℕ) → List ℕ
joined [] = []
joined (a ∷ rest) = a ++ joined rest

pub record Asked : Type 0 where
  pub refusal : Verdict
  pub answered : ℕ
  pub used : ℕ
  pub room : List ℕ

abbrev pub asked : Outcome → List ℕ → Asked
asked r room = record { refusal = r.verdict; answered = r.answered; used = r.used; room = room }

unfoldable pub put : Replied → List ℕ → Asked
put r room = record {
  refusal = r.refusal;
  answered = length r.answers;
  used = length (joined r.answers);
  room = laid (joined r.answers) room;
}

unfoldable pub ask : List ℕ → List ℕ → List ℕ → Asked
ask s qs room = put (reply s qs (length room)) room

-- The call: a law for each way through its tests.
use mathlib.Core.Bool.{true, false}
use mathlib.Core.Path.{◌≡◌}
use mathlib.Core.List.{List}
use Prim.Native.Nat.{ℕ}
use lib.ListN.{length}
use Rattle.rules.specs.Verdict.{Verdict}
use Rattle.rules.specs.Verdict.{Question}
use Rattle.rules.specs.Refusal.{accepted}
use Rattle.rules.specs.Write.{laid}
use Rattle.rules.specs.Index.{index_t, index_refusal}
use Rattle.rules.specs.Ask.{reply, joined, put, fitted, ask}
use Rattle.questions.specs.Formed.{formed, answers_to}
use Rattle.replies.specs.Running.{outcome}

module _ (s qs room : List ℕ) where
  pub ask_refused : (r : Verdict) → r ≡ index_refusal s → accepted r ≡ false → outcome r 0 0 room ≡ ask s qs room
  unfolding ask put reply joined laid
  ask_refused r e a = rw (← e, a)

  pub ask_question : accepted (index_refusal s) ≡ true → formed (index_t s) qs ≡ false → outcome Question 0 0 room
      ≡ ask s qs room
  unfolding ask put reply joined laid formed
  ask_question a f = rw (a, f)

  pub ask_good : accepted (index_refusal s) ≡ true → formed (index_t s) qs ≡ true
      → put (fitted (length room) (answers_to s qs)) room ≡ ask s qs room
  unfolding ask reply formed answers_to
  ask_good a f = rw (a, f)

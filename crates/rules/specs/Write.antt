-- What writing leaves in lent room [01 Numbers of refusal: the writers].
--
--   Made               a writer's result: refusal, length of what was written, and the room after it
--   made r room        the same, of what a function answers and the room after it
--   refused r room     nothing written
--   laid b room        the bytes b at the room's front, and behind them what was there
--   stored b room      b laid into the room, or refused as 9 where it does not fit
--   write_list U xs room  the writer of a list
use Rattle.std.specs.Prelude.{cond, not, List, ◌++◌, ℕ, ltb, length, drop, Result}
use Rattle.std.specs.Result.{result_unwrap_or}
use Rattle.rules.specs.declared.Refusal.{Refusal}
use Rattle.rules.specs.Verdict.{Verdict, verdict}
use Rattle.rules.specs.Verdict.{Accepted, Limit, Room, Lists}
use Rattle.rules.specs.Limits.{limit}
use Rattle.rules.specs.List.{rising, block}

pub record Made : Type 0 where
  pub refusal : Verdict
  pub size : ℕ
  pub room : List ℕ

abbrev pub made : Result ℕ Refusal → List ℕ → Made
made r room = record { refusal = verdict r; size = result_unwrap_or r 0; room = room }

abbrev pub refused : Verdict → List ℕ → Made
refused r room = record { refusal = r; size = 0; room = room }

unfoldable pub laid : List ℕ → List ℕ → List ℕ
laid b room = b ++ drop (length b) room

unfoldable pub stored : List ℕ → List ℕ → Made
stored b room =
    cond (ltb (length room) (length b)) (refused Room room)
    (record { refusal = Accepted; size = length b; room = laid b room })

unfoldable pub write_list : ℕ → List ℕ → List ℕ → Made
write_list U xs room =
    cond (ltb limit U) (refused Limit room)
    (cond (not (rising 0 U xs)) (refused Lists room)
    (stored (block U xs) room))

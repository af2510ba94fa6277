-- The numbers of refusal [01 Numbers of refusal].
--
--   number r     document 01's number of a refusal; 0 where there is none
--   accepted r   whether there is none
--   and_then r s  the first one found: r, or s where r is none
use Rattle.std.specs.Prelude.{Bool, cond, ℕ, eqb, Ok, Err}
use Rattle.rules.specs.declared.Refusal.TheVariants.{Short, Length, Version, Limit, Layout, Runs}
use Rattle.rules.specs.declared.Refusal.TheVariants.{Parts, Question, Room, Lists}
use Rattle.rules.specs.Verdict.{Verdict}

abbrev pub number : Verdict → ℕ
number (Ok _) = 0
-- fewer bytes than the header
number (Err Short) = 1
-- the stated length differs from the bytes given
number (Err Length) = 2
number (Err Version) = 3
-- U, N or T over its limit; a closed index's length past four bytes
number (Err Limit) = 4
-- n above U, a length that U and n do not give, or bytes left over
number (Err Layout) = 5
-- runs or pointers are not those of a valid list
number (Err Runs) = 6
-- parts disagree
number (Err Parts) = 7
number (Err Question) = 8
-- lent room too small
number (Err Room) = 9
-- lists handed to a writer are not valid, or a session of a word in runs is over [02 c]
number (Err Lists) = 10

unfoldable pub accepted : Verdict → Bool
accepted r = eqb (number r) 0

unfoldable pub and_then : Verdict → Verdict → Verdict
and_then r s = cond (accepted r) s r

-- Parts of a container: blocks one after the other [01 Numbers of refusal: "inside a container"].
--
--   after k s      what is left of the bytes s behind their first k blocks, by the lengths that those state
--   part k s       block number k of s, from 0
--   inside h f s   the refusal of the block at the front of s, where s is what remains of its container;
--                  h is its header's size and f the refusal of its own bytes
use Rattle.std.specs.Prelude.{cond, ◌||◌, List, ℕ, zero, suc, ltb, length, take, drop}
use Rattle.rules.specs.Verdict.{Verdict}
use Rattle.rules.specs.Verdict.{Short, Length}
use Rattle.rules.specs.ReadList.{stated}

unfoldable pub after : ℕ → List ℕ → List ℕ
after zero s = s
after (suc k) s = after k (drop (stated s) s)

unfoldable pub part : ℕ → List ℕ → List ℕ
part k s = take (stated (after k s)) (after k s)

unfoldable pub inside : ℕ → (List ℕ → Verdict) → List ℕ → Verdict
inside h f s =
    cond (ltb (length s) h) Short
    (cond (ltb (stated s) h || ltb (length s) (stated s)) Length
    (f (take (stated s) s)))

-- A list block written in place, a part of its elements at a time: what each step leaves in the room [02 c].
--
--   emptied U n      the block of n elements below U of which none is laid: its header, and zeros
--   from p f s       s with its bytes from p on changed by f
--   with_ones m v s   s with the ones of the number v set in the m words at its front
--   number_of m s     the number whose words are the m words at the front of s
--   added U n i xs s the block at the front of s, with the elements xs laid as number i and on; no bit is cleared
--   pointed U n s    the block at the front of s, with the pointers that its upper run gives
--   map_emptied U n, map_added U xs s, map_numbered U s   the same of a bitmap, which has numbers for pointers [02 f]
--   form_emptied f U n, form_added f U n i xs s, form_pointed f U n s   the same of a list in the form f
use Rattle.std.specs.Prelude.{List, ◌++◌, ℕ, zero, suc, ◌+◌, ◌-◌, ◌*◌, ◌/◌, ◌%◌, ◌^◌, take, drop, replicate}
use Rattle.std.specs.Int.Bits.{bit_or}
use Rattle.rules.specs.Limits.{version, map_version, list_header}
use Rattle.rules.specs.Bytes.{be, be_at}
use Rattle.rules.specs.Runs.{words_for}
use Rattle.rules.specs.List.{width, zeros, lower, upper, fours, pointers, lower_at, upper_at, size, headed}
use Rattle.rules.specs.List.{map_of, pages_below, map_at, map_size, Form, two_runs, bitmap}
use Rattle.rules.specs.Write.{laid}

unfoldable pub emptied : ℕ → ℕ → List ℕ
emptied U n = headed version U n (replicate (size U n - list_header) 0)

unfoldable pub from : ℕ → (List ℕ → List ℕ) → List ℕ → List ℕ
from p f s = take p s ++ f (drop p s)

unfoldable pub with_ones : ℕ → ℕ → List ℕ → List ℕ
with_ones zero v s = s
with_ones (suc m) v s = be 8 (bit_or (be_at 8 s 0) (v % 2 ^ 64)) ++ with_ones m (v / 2 ^ 64) (drop 8 s)

unfoldable pub number_of : ℕ → List ℕ → ℕ
number_of zero s = 0
number_of (suc m) s = be_at 8 s 0 + number_of m (drop 8 s) * 2 ^ 64

unfoldable pub added : ℕ → ℕ → ℕ → List ℕ → List ℕ → List ℕ
added U zero i xs s = s
added U (suc m) i xs s =
    let n : ℕ = suc m in
    let w : ℕ = width U n in
    from (lower_at U w) (with_ones (words_for (n * w)) (lower w i xs))
    (from (upper_at U n w) (with_ones (words_for (n + zeros U w)) (upper w i xs)) s)

unfoldable pub pointed : ℕ → ℕ → List ℕ → List ℕ
pointed U zero s = s
pointed U (suc m) s =
    let n : ℕ = suc m in
    let w : ℕ = width U n in
    let Z : ℕ = zeros U w in
    let u : ℕ = number_of (words_for (n + Z)) (drop (upper_at U n w) s) in
    from list_header (laid (pointers (n + Z) u 1 (Z / 256))) s

unfoldable pub map_emptied : ℕ → ℕ → List ℕ
map_emptied U n = headed map_version U n (replicate (map_size U - list_header) 0)

unfoldable pub map_added : ℕ → List ℕ → List ℕ → List ℕ
map_added U xs s = from (map_at U) (with_ones (words_for U) (map_of xs)) s

unfoldable pub map_numbered : ℕ → List ℕ → List ℕ
map_numbered U s =
    from list_header (laid (fours (pages_below (number_of (words_for U) (drop (map_at U) s))) 1 (U / 256))) s

abbrev pub form_emptied : Form → ℕ → ℕ → List ℕ
form_emptied two_runs U n = emptied U n
form_emptied bitmap U n = map_emptied U n

abbrev pub form_added : Form → ℕ → ℕ → ℕ → List ℕ → List ℕ → List ℕ
form_added two_runs U n i xs s = added U n i xs s
form_added bitmap U n i xs s = map_added U xs s

abbrev pub form_pointed : Form → ℕ → ℕ → List ℕ → List ℕ
form_pointed two_runs U n s = pointed U n s
form_pointed bitmap U n s = map_numbered U s

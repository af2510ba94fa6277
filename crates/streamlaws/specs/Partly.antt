-- A list block of which a part of the elements is laid.
--
--   laid_runs U n xs  zeros for the pointers, and the two runs with the ones of the elements xs; nothing for n = 0
--   partly U n xs    the block of n elements of which xs are laid, no pointers yet
--   map_partly U n xs  the same of a bitmap, no numbers yet [02 f]
--   form_partly f U n xs  the same of a list in the form f
use Rattle.std.specs.Prelude.{List, [], ◌++◌, ℕ, zero, suc, ◌+◌, ◌*◌, ◌/◌, replicate}
use Rattle.rules.specs.Limits.{version, map_version}
use Rattle.rules.specs.Runs.{words_for, words}
use Rattle.rules.specs.List.{width, zeros, lower, upper, headed, map_of, Form, two_runs, bitmap}

unfoldable pub laid_runs : ℕ → ℕ → List ℕ → List ℕ
laid_runs U zero xs = []
laid_runs U (suc m) xs =
    let n : ℕ = suc m in
    let w : ℕ = width U n in
    let Z : ℕ = zeros U w in
    replicate (4 * (Z / 256)) 0
    ++ (words (words_for (n * w)) (lower w 0 xs) ++ words (words_for (n + Z)) (upper w 0 xs))

unfoldable pub partly : ℕ → ℕ → List ℕ → List ℕ
partly U n xs = headed version U n (laid_runs U n xs)

unfoldable pub map_partly : ℕ → ℕ → List ℕ → List ℕ
map_partly U n xs = headed map_version U n (replicate (4 * (U / 256)) 0 ++ words (words_for U) (map_of xs))

abbrev pub form_partly : Form → ℕ → ℕ → List ℕ → List ℕ
form_partly two_runs U n xs = partly U n xs
form_partly bitmap U n xs = map_partly U n xs

-- One list and its block, in either of its forms [01 One list; 02 f].
--
--   rising lo U xs     xs rises strictly, from lo at the least, and stays below U
--   valid_list U xs     U is within its limit and xs rises below it
--   width U n          w: the greatest with 2 ^ w ≤ U / n; n at least 1
--   zeros U w          Z
--   upper w i xs       the upper run as a number, its bit p the run's bit p; xs are the elements from number i on
--   lower w i xs       the lower run likewise
--   pointer b u i      pointer number i of the upper run u of b bits; 0 for i = 0
--   fours f i c        f i, f (i + 1) and so on, c of them, as four bytes each
--   lower_at, upper_at   the byte at which a run starts in the block
--   size U n           the length that U and n give
--   block U xs         the block
--   map_of xs           the bitmap as a number, its bit x set for each element x
--   ones_up_to u p       how many of the first p bits of the number u are 1
--   pages_below u i     number i of the bitmap u: how many pages are below 256 * i
--   map_at U            the byte at which the bitmap starts in its block
--   map_size U, map_block U xs   the length of a bitmap's block, and the block
--   Form               how a list is stored
--   dense U n          whether n elements below U take more bits in two runs than there are numbers below U
--   form_of v U n       the form of n pages below U in an index of version v
--   form_version f, form_size f U n, form_block f U xs   the version, the length and the block of a list in that form
--
--   block, in bytes: 0 length (4) | 4 version (1) | 5 U (4) | 9 n (4) | 13 pointers (4 each) | lower run | upper run
--   bitmap's block:  0 length (4) | 4 version (1) | 5 U (4) | 9 n (4) | 13 numbers (4 each) | U bits
use Rattle.std.specs.Prelude.{Bool, true, false, cond, ◌&&◌, List, [], ◌∷◌, ◌++◌, ℕ, zero, suc, ◌+◌, ◌*◌, ◌/◌, ◌%◌, ◌^◌, ltb, leb, length}
use Rattle.rules.specs.Limits.{limit, version, map_version, map_edition, list_header}
use Rattle.rules.specs.Bytes.{be, sized}
use Rattle.rules.specs.Runs.{bit, words_for, words}

unfoldable pub rising : ℕ → ℕ → List ℕ → Bool
rising lo U [] = true
rising lo U (x ∷ xs) = leb lo x && (ltb x U && rising (x + 1) U xs)

unfoldable pub valid_list : ℕ → List ℕ → Bool
valid_list U xs = leb U limit && rising 0 U xs

-- the greatest w up to f with 2 ^ w ≤ q, for q at least 1
unfoldable pub greatest : ℕ → ℕ → ℕ
greatest zero q = 0
greatest (suc f) q = elim (leb (2 ^ suc f) q) [ true ↦ suc f | false ↦ greatest f q ]

-- no number of four bytes reaches 2 ^ 32
unfoldable pub width : ℕ → ℕ → ℕ
width U n = greatest 32 (U / n)

unfoldable pub zeros : ℕ → ℕ → ℕ
zeros U w = U / 2 ^ w

unfoldable pub upper : ℕ → ℕ → List ℕ → ℕ
upper w i [] = 0
upper w i (x ∷ xs) = 2 ^ (x / 2 ^ w + i) + upper w (i + 1) xs

unfoldable pub lower : ℕ → ℕ → List ℕ → ℕ
lower w i [] = 0
lower w i (x ∷ xs) = x % 2 ^ w * 2 ^ (i * w) + lower w (i + 1) xs

-- the place just after zero number k, counted from 1, of the b bits of u from place p on
unfoldable pub after_zero : ℕ → ℕ → ℕ → ℕ → ℕ
after_zero zero u k p = p
after_zero (suc b) u zero p = p
after_zero (suc b) u (suc k) p =
    elim (bit u p) [ zero ↦ after_zero b u k (p + 1) | suc _ ↦ after_zero b u (suc k) (p + 1) ]

unfoldable pub pointer : ℕ → ℕ → ℕ → ℕ
pointer b u i = after_zero b u (256 * i) 0

unfoldable pub fours : (ℕ → ℕ) → ℕ → ℕ → List ℕ
fours f i zero = []
fours f i (suc c) = be 4 (f i) ++ fours f (i + 1) c

-- c pointers, from number i on
abbrev pub pointers : ℕ → ℕ → ℕ → ℕ → List ℕ
pointers b u i c = fours (pointer b u) i c

unfoldable pub lower_at : ℕ → ℕ → ℕ
lower_at U w = list_header + 4 * (zeros U w / 256)

unfoldable pub upper_at : ℕ → ℕ → ℕ → ℕ
upper_at U n w = lower_at U w + 8 * words_for (n * w)

unfoldable pub size : ℕ → ℕ → ℕ
size U zero = list_header
size U (suc m) =
    let n : ℕ = suc m in
    let w : ℕ = width U n in
    upper_at U n w + 8 * words_for (n + zeros U w)

-- pointers, lower run and upper run of n elements
unfoldable pub runs : ℕ → ℕ → ℕ → List ℕ → List ℕ
runs U n w xs =
    let Z : ℕ = zeros U w in
    pointers (n + Z) (upper w 0 xs) 1 (Z / 256)
    ++ (words (words_for (n * w)) (lower w 0 xs) ++ words (words_for (n + Z)) (upper w 0 xs))

unfoldable pub body : ℕ → List ℕ → List ℕ
body U [] = []
body U (x ∷ xs) = runs U (length (x ∷ xs)) (width U (length (x ∷ xs))) (x ∷ xs)

-- a block of n elements below U with that version: its header, and what follows
abbrev pub headed : ℕ → ℕ → ℕ → List ℕ → List ℕ
headed v U n rest = sized (v ∷ (be 4 U ++ (be 4 n ++ rest)))

unfoldable pub block : ℕ → List ℕ → List ℕ
block U xs = headed version U (length xs) (body U xs)

unfoldable pub map_of : List ℕ → ℕ
map_of [] = 0
map_of (x ∷ xs) = 2 ^ x + map_of xs

unfoldable pub ones_up_to : ℕ → ℕ → ℕ
ones_up_to u zero = 0
ones_up_to u (suc p) = ones_up_to u p + bit u p

unfoldable pub pages_below : ℕ → ℕ → ℕ
pages_below u i = ones_up_to u (256 * i)

unfoldable pub map_at : ℕ → ℕ
map_at U = list_header + 4 * (U / 256)

unfoldable pub map_size : ℕ → ℕ
map_size U = map_at U + 8 * words_for U

-- the numbers for i from 1 to U / 256, and the bits
unfoldable pub map_body : ℕ → List ℕ → List ℕ
map_body U xs = fours (pages_below (map_of xs)) 1 (U / 256) ++ words (words_for U) (map_of xs)

unfoldable pub map_block : ℕ → List ℕ → List ℕ
map_block U xs = headed map_version U (length xs) (map_body U xs)

pub data Form : Type 0 where
  -- a lower and an upper run
  two_runs : Form
  bitmap : Form

unfoldable pub dense : ℕ → ℕ → Bool
dense U n = ltb 0 n && ltb U (n + zeros U (width U n) + n * width U n)

unfoldable pub form_of : ℕ → ℕ → ℕ → Form
form_of v U n = cond (leb map_edition v && dense U n) bitmap two_runs

abbrev pub form_version : Form → ℕ
form_version two_runs = version
form_version bitmap = map_version

abbrev pub form_size : Form → ℕ → ℕ → ℕ
form_size two_runs U n = size U n
form_size bitmap U n = map_size U

abbrev pub form_block : Form → ℕ → List ℕ → List ℕ
form_block two_runs U xs = block U xs
form_block bitmap U xs = map_block U xs

-- How a seek moves, and what it counts: the step rule on one list, in either form [01 How a seek moves; 02 f]. The run of
-- a list is its upper run, or its bitmap.
--
--   Cursor          fresh, on element number i, or spent
--   Found           none with the list's n [02 a], or a page with its rank
--   rank_of f        the number that either carries [02 a]: the page's rank, or n
--   Sought          what a seek answers: found, the next cursor, looks
--   place_in f w x i the bit of element number i, which is x, in the run of a list of low width w
--   place_of f U xs i  that of element number i of xs
--   bits_of f U xs   the bits of the run; 0 for the empty list
--   upper_words f U xs  its words
--   start_of f U xs c b  the bit at which a seek for b starts; xs not empty
--   looks_to a z     the words from bit a's to bit z's, both counted
--   seek f U xs c b one seek for b on the list xs below U, stored in the form f
use Rattle.std.specs.Prelude.{true, false, cond, ◌&&◌, ◌||◌, List, [], ◌∷◌, ℕ, zero, suc, ◌+◌, ◌-◌, ◌/◌, ◌^◌, max, leb, eqb, length, get_or}
use Rattle.rules.specs.Runs.{words_for}
use Rattle.rules.specs.List.{width, zeros, upper, pointer, Form, two_runs, bitmap}

pub data Cursor : Type 0 where
  fresh : Cursor
  on : ℕ → Cursor
  spent : Cursor

pub data Found : Type 0 where
  none : ℕ → Found
  page : ℕ → ℕ → Found

unfoldable pub rank_of : Found → ℕ
rank_of (none n) = n
rank_of (page x i) = i

pub record Sought : Type 0 where
  pub found : Found
  pub cursor : Cursor
  pub looks : ℕ

abbrev pub width_of : ℕ → List ℕ → ℕ
width_of U xs = width U (length xs)

abbrev pub place_in : Form → ℕ → ℕ → ℕ → ℕ
place_in two_runs w x i = x / 2 ^ w + i
place_in bitmap w x i = x

unfoldable pub place_of : Form → ℕ → List ℕ → ℕ → ℕ
place_of f U xs i = place_in f (width_of U xs) (get_or xs i 0) i

-- the bits of the run of n elements, at least 1
abbrev pub run_bits : Form → ℕ → ℕ → ℕ
run_bits two_runs U n = n + zeros U (width U n)
run_bits bitmap U n = U

unfoldable pub bits_of : Form → ℕ → List ℕ → ℕ
bits_of f U [] = 0
bits_of f U (x ∷ xs) = run_bits f U (length (x ∷ xs))

unfoldable pub upper_words : Form → ℕ → List ℕ → ℕ
upper_words f U xs = words_for (bits_of f U xs)

-- the current element's bit; 0 if fresh
unfoldable pub cursor_bit : Form → ℕ → List ℕ → Cursor → ℕ
cursor_bit f U xs fresh = 0
cursor_bit f U xs (on i) = place_of f U xs i
cursor_bit f U xs spent = 0

-- where b lets a seek jump to: a pointer, or b's own bit
abbrev pub jump_to : Form → ℕ → List ℕ → ℕ → ℕ
jump_to two_runs U xs b =
    let w : ℕ = width_of U xs in
    pointer (bits_of two_runs U xs) (upper w 0 xs) (b / 2 ^ w / 256)
jump_to bitmap U xs b = b

unfoldable pub start_of : Form → ℕ → List ℕ → Cursor → ℕ → ℕ
start_of f U xs c b = max (cursor_bit f U xs c) (jump_to f U xs b)

unfoldable pub looks_to : ℕ → ℕ → ℕ
looks_to a z = z / 64 - a / 64 + 1

-- the number of the first element at least b whose bit is at or after start; xs are those from number i on, and
-- the number behind them all where there is none
unfoldable pub walk : Form → ℕ → ℕ → ℕ → ℕ → List ℕ → ℕ
walk f w start b i [] = i
walk f w start b i (x ∷ xs) =
    elim (leb start (place_in f w x i) && leb b x) [ true ↦ i | false ↦ walk f w start b (i + 1) xs ]

unfoldable pub gone : List ℕ → ℕ → Sought
gone xs looks = record { found = none (length xs); cursor = spent; looks = looks }

unfoldable pub arrived : List ℕ → ℕ → ℕ → Sought
arrived xs i looks = record { found = page (get_or xs i 0) i; cursor = on i; looks = looks }

-- a walk from start that ended at element number i
unfoldable pub walked : Form → ℕ → List ℕ → ℕ → ℕ → Sought
walked f U xs start i =
    cond (eqb i (length xs)) (gone xs (looks_to start (bits_of f U xs - 1)))
    (arrived xs i (looks_to start (place_of f U xs i)))

unfoldable pub walk_from : Form → ℕ → List ℕ → ℕ → ℕ → Sought
walk_from f U xs start b =
    cond (eqb start (bits_of f U xs)) (gone xs 0) (walked f U xs start (walk f (width_of U xs) start b 0 xs))

unfoldable pub move : Form → ℕ → List ℕ → Cursor → ℕ → Sought
move f U xs c b = cond (eqb (length xs) 0 || leb U b) (gone xs 0) (walk_from f U xs (start_of f U xs c b) b)

unfoldable pub seek : Form → ℕ → List ℕ → Cursor → ℕ → Sought
seek f U xs fresh b = move f U xs fresh b
seek f U xs (on i) b = cond (leb b (get_or xs i 0)) (arrived xs i 0) (move f U xs (on i) b)
seek f U xs spent b = gone xs 0

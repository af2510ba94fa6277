-- Cursors on a list of pages in either form, and seeks in turn on one cursor.
--
--   first_at b xs     the number of the first element at least b; the list's length where there is none
--   found_at xs i     the answer at element number i; none with all of them behind the last
--   cursor_at xs i    the cursor there; spent behind the last
--   floor U xs c     the element at which the cursor is; 0 if fresh, U if spent
--   Placed xs c      a cursor on an element is on one of xs
--   Moves xs c b     the cursor is fresh, or on an element below b: a seek for b does not stay
--   Behind U xs c b  every element that the cursor has passed is below b
--   Ahead f U xs b p every element at least b has its bit at place p or after it
--   Answered xs b s  s found the first element at least b, and its cursor is there
--   reached f U xs c the word at which the cursor is; 0 if fresh, all of them if spent
--   seek_with jump f U xs c b  the seek that takes jump b for the place to which b lets it jump
--   answers f U xs c bs   what seeks for the bounds bs in turn find
--   looks_over f U xs c bs and their looks in all
--   firsts xs bs     the first element at least b, for each bound b, by plain reading
--   never_down b bs   whether the bounds bs never go down, from b on
--   ranks fs         the number that each of the answers fs carries
--   belows xs bs     how many elements are below b, for each bound b, by plain reading
use Rattle.std.specs.Prelude.{Bool, true, false, cond, ◌&&◌, ◌||◌, ◌≡◌, List, [], ◌∷◌, ℕ, suc, ◌+◌, ◌/◌, ◌≤◌, ◌<◌, max, leb, eqb, length, get_or}
use Rattle.rules.specs.List.{Form}
use Rattle.rules.specs.Seek.{Cursor, fresh, on, spent, Found, none, page, Sought}
use Rattle.rules.specs.Seek.{rank_of, place_of, upper_words, cursor_bit, gone, arrived, walk_from, seek}
use Rattle.rules.specs.Plain.{first_from, below}

unfoldable pub first_at : ℕ → List ℕ → ℕ
first_at b [] = 0
first_at b (x ∷ xs) = elim (leb b x) [ true ↦ 0 | false ↦ suc (first_at b xs) ]

unfoldable pub found_at : List ℕ → ℕ → Found
found_at xs i = cond (eqb i (length xs)) (none i) (page (get_or xs i 0) i)

unfoldable pub cursor_at : List ℕ → ℕ → Cursor
cursor_at xs i = cond (eqb i (length xs)) spent (on i)

unfoldable pub floor : ℕ → List ℕ → Cursor → ℕ
floor U xs fresh = 0
floor U xs (on i) = get_or xs i 0
floor U xs spent = U

abbrev pub Placed : List ℕ → Cursor → Type 0
Placed xs fresh = Unit {0}
Placed xs (on i) = i < length xs
Placed xs spent = Unit {0}

abbrev pub Moves : List ℕ → Cursor → ℕ → Type 0
Moves xs fresh b = Unit {0}
Moves xs (on i) b = get_or xs i 0 < b
Moves xs spent b = ⊥

abbrev pub Behind : ℕ → List ℕ → Cursor → ℕ → Type 0
Behind U xs c b = (j : ℕ) → j < length xs → get_or xs j 0 < floor U xs c → get_or xs j 0 < b

pub record Answered (xs : List ℕ) (b : ℕ) (s : Sought) : Type 0 where
  pub found : s.found ≡ first_from b 0 xs
  pub cursor : s.cursor ≡ cursor_at xs (first_at b xs)

abbrev pub Ahead : Form → ℕ → List ℕ → ℕ → ℕ → Type 0
Ahead f U xs b p = (j : ℕ) → j < length xs → b ≤ get_or xs j 0 → p ≤ place_of f U xs j

unfoldable pub reached : Form → ℕ → List ℕ → Cursor → ℕ
reached f U xs fresh = 0
reached f U xs (on i) = place_of f U xs i / 64
reached f U xs spent = upper_words f U xs

unfoldable pub move_with : (ℕ → ℕ) → Form → ℕ → List ℕ → Cursor → ℕ → Sought
move_with jump f U xs c b =
    cond (eqb (length xs) 0 || leb U b) (gone xs 0)
    (walk_from f U xs (max (cursor_bit f U xs c) (jump b)) b)

unfoldable pub seek_with : (ℕ → ℕ) → Form → ℕ → List ℕ → Cursor → ℕ → Sought
seek_with jump f U xs fresh b = move_with jump f U xs fresh b
seek_with jump f U xs (on i) b = cond (leb b (get_or xs i 0)) (arrived xs i 0) (move_with jump f U xs (on i) b)
seek_with jump f U xs spent b = gone xs 0

unfoldable pub answers : Form → ℕ → List ℕ → Cursor → List ℕ → List Found
answers f U xs c [] = []
answers f U xs c (b ∷ bs) = (seek f U xs c b).found ∷ answers f U xs (seek f U xs c b).cursor bs

unfoldable pub looks_over : Form → ℕ → List ℕ → Cursor → List ℕ → ℕ
looks_over f U xs c [] = 0
looks_over f U xs c (b ∷ bs) = (seek f U xs c b).looks + looks_over f U xs (seek f U xs c b).cursor bs

unfoldable pub firsts : List ℕ → List ℕ → List Found
firsts xs [] = []
firsts xs (b ∷ bs) = first_from b 0 xs ∷ firsts xs bs

unfoldable pub never_down : ℕ → List ℕ → Bool
never_down b [] = true
never_down b (d ∷ bs) = leb b d && never_down d bs

unfoldable pub ranks : List Found → List ℕ
ranks [] = []
ranks (f ∷ fs) = rank_of f ∷ ranks fs

unfoldable pub belows : List ℕ → List ℕ → List ℕ
belows xs [] = []
belows xs (b ∷ bs) = below b xs ∷ belows xs bs

-- Cursors as structs of numbers, and what a seek makes of one, on a list in either form [01 How a seek moves; 02 f].
--
--   spent_mark         the mark of a spent cursor
--   unused            the cursor that no seek has moved
--   mark_of xs a       the mark of the rule's cursor a: 0 if fresh, page + 1 on an element, spent_mark if spent
--   held f U xs a seeks looks   the struct that holds the rule's cursor a, with its counts
--   rank_in f U xs c   the rank of the element that c is on: the ones before its bit
--   rule_cursor f U xs c         the rule's cursor that the struct c holds, read off its mark and bit
--   Held f U xs c     c is a cursor that seeks on the list xs below U, stored in the form f, have made
--   Moving f s c b    a cursor on the list in s that a seek for b moves: it is not ahead of b, nor b of the list
--   start_in f s c b   the bit at which the rule's seek for b starts on that list
--   landing f U xs c b  where a seek for b ends: at the rule's next cursor
--   looks_for f U xs c b   the rule's looks of that seek
--   found_for f U xs c b   the answer of the rule's seek: a page with its rank, or none with the list's n
--   moved_to f U xs c b    the cursor after a seek for b: there, with one seek more and those looks more
--   found_by f U xs c  the answer that a cursor after a seek stands for: its page and rank, or none with the list's n
--   after f U xs c bs   the cursor after seeks for the bounds bs in turn
--   founds f U xs c bs  the answers that these cursors stand for
use Rattle.std.specs.Prelude.{cond, ◌≡◌, List, [], ◌∷◌, ℕ, ◌+◌, ◌-◌, ◌/◌, ◌^◌, ◌≤◌, ◌<◌, eqb, length, get_or}
use Rattle.rules.specs.List.{Form, two_runs, bitmap}
use Rattle.rules.specs.ReadList.{list_u, list_n, decode}
use Rattle.rules.specs.Seek.{Cursor as Placing, fresh, on, spent, Found, none, page, Sought, width_of, cursor_bit}
use Rattle.rules.specs.Seek.{start_of, seek}
use Rattle.rules.specs.Plain.{below}
use Rattle.seeklaws.specs.Cursors.{Placed}
use Rattle.walklaws.specs.declared.Cursor.{Cursor}
use Rattle.walklaws.specs.declared.Landing.{Landing}

abbrev pub spent_mark : ℕ
spent_mark = 4294967295

unfoldable pub unused : Cursor
unused = record { mark = 0; bit = 0; seeks = 0; looks = 0 }

unfoldable pub mark_of : List ℕ → Placing → ℕ
mark_of xs fresh = 0
mark_of xs (on i) = get_or xs i 0 + 1
mark_of xs spent = spent_mark

unfoldable pub held : Form → ℕ → List ℕ → Placing → ℕ → ℕ → Cursor
held f U xs a seeks looks = record { mark = mark_of xs a; bit = cursor_bit f U xs a; seeks = seeks; looks = looks }

-- a bitmap's bit is the page itself
abbrev pub rank_in : Form → ℕ → List ℕ → Cursor → ℕ
rank_in two_runs U xs c = c.bit - (c.mark - 1) / 2 ^ width_of U xs
rank_in bitmap U xs c = below c.bit xs

unfoldable pub rule_cursor : Form → ℕ → List ℕ → Cursor → Placing
rule_cursor f U xs c = cond (eqb c.mark 0) fresh (cond (eqb c.mark spent_mark) spent (on (rank_in f U xs c)))

pub record Held (f : Form) (U : ℕ) (xs : List ℕ) (c : Cursor) : Type 0 where
  pub place : Placing
  pub placed : Placed xs place
  pub mark_is : c.mark ≡ mark_of xs place
  pub bit_is : c.bit ≡ cursor_bit f U xs place

pub record Moving (f : Form) (s : List ℕ) (c : Cursor) (b : ℕ) : Type 0 where
  pub cursor : Held f (list_u s) (decode s) c
  pub some : 0 < list_n s
  pub ahead : c.mark ≤ b
  pub below : b < list_u s

abbrev pub start_in : Form → List ℕ → Cursor → ℕ → ℕ
start_in f s c b = start_of f (list_u s) (decode s) (rule_cursor f (list_u s) (decode s) c) b

unfoldable pub landing : Form → ℕ → List ℕ → Cursor → ℕ → Landing
landing f U xs c b =
    let a : Sought = seek f U xs (rule_cursor f U xs c) b in
    record { mark = mark_of xs a.cursor; bit = cursor_bit f U xs a.cursor }

unfoldable pub looks_for : Form → ℕ → List ℕ → Cursor → ℕ → ℕ
looks_for f U xs c b = (seek f U xs (rule_cursor f U xs c) b).looks

abbrev pub found_for : Form → ℕ → List ℕ → Cursor → ℕ → Found
found_for f U xs c b = (seek f U xs (rule_cursor f U xs c) b).found

unfoldable pub moved_to : Form → ℕ → List ℕ → Cursor → ℕ → Cursor
moved_to f U xs c b =
    let a : Sought = seek f U xs (rule_cursor f U xs c) b in
    held f U xs a.cursor (c.seeks + 1) (c.looks + a.looks)

unfoldable pub found_by : Form → ℕ → List ℕ → Cursor → Found
found_by f U xs c = cond (eqb c.mark spent_mark) (none (length xs)) (page (c.mark - 1) (rank_in f U xs c))

unfoldable pub after : Form → ℕ → List ℕ → Cursor → List ℕ → Cursor
after f U xs c [] = c
after f U xs c (b ∷ bs) = after f U xs (moved_to f U xs c b) bs

unfoldable pub founds : Form → ℕ → List ℕ → Cursor → List ℕ → List Found
founds f U xs c [] = []
founds f U xs c (b ∷ bs) = found_by f U xs (moved_to f U xs c b) ∷ founds f U xs (moved_to f U xs c b) bs
